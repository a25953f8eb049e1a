-- Bounds at every point.
use Rattle.std.proofs.Common.{◌≡◌, ap, inl, inr, ℕ, zero, suc, ◌+◌, ◌*◌, ◌≤◌, ◌<◌, min, Bool, true, false, List, [], ◌∷◌, length, get_or, drop, arith, mul-le-mul_right}
use Rattle.std.proofs.lemmas.Bool.{cases_lt}
use Rattle.std.proofs.lemmas.List.{drop_more}
use Rattle.std.specs.Prelude.{if◌then◌else◌}
use Rattle.flow_graph.specs.declared.parts.Edge.{Edge}
use Rattle.loop_regions.specs.Walks.{LoopGraph}
use Rattle.loop_regions.specs.Costs.{Prices, unit_cost, walk_cost}
use Rattle.remaining_wcet.specs.SubTasks.{SubTasks, IsBounded, first_of_sub, span}
use Rattle.remaining_wcet.specs.Bounds.{IsBound, IsSlower, sum_of}

fetch_slower : (slow fast : Prices) → IsSlower slow fast → (charged : Bool)
    → (if charged then slow.miss else 0) ≤ (if charged then fast.miss else 0)
fetch_slower slow fast s true = s.miss
fetch_slower slow fast s false = omega arith

unit_slower : (slow fast : Prices) → IsSlower slow fast → (charged : ℕ → Bool) (long : Bool) (u : ℕ)
    → unit_cost slow charged long u ≤ unit_cost fast charged long u
unit_slower slow fast s charged true u =
    omega
    (arith, s.base u, s.base (u + 4), fetch_slower slow fast s (charged u), fetch_slower slow fast s (charged (u + 4)))
unit_slower slow fast s charged false u = omega (arith, s.base u, fetch_slower slow fast s (charged u))

pub walk_slower : (slow fast : Prices) → IsSlower slow fast
    → (charged : ℕ → Bool) (g : LoopGraph) (u : ℕ) (es : List Edge)
    → walk_cost slow charged g u es ≤ walk_cost fast charged g u es
walk_slower slow fast s charged g u [] = unit_slower slow fast s charged (g.is_long u) u
walk_slower slow fast s charged g u (e ∷ es) =
    omega
    (arith, s.edge e, unit_slower slow fast s charged (g.is_long e.to) e.to, walk_slower slow fast s charged g u es)

below_cap : (cap value more cost bound : ℕ) → bound ≡ min cap (value + more) → bound < cap
    → (value < cap → cost ≤ value) → cost + more ≤ bound
below_cap cap value more cost bound is below h =
    let v : value < cap = omega (arith, is, below) in let c = h v in omega (arith, is, below, c)

by_fast : (cap value more cost bound : ℕ) → bound ≡ min cap (value + more) → (value < cap → cost ≤ value) → (fast : ℕ)
    → cost + more ≤ fast → fast < cap → cost + more ≤ bound
by_fast cap value more cost bound is h fast f below = elim (cases_lt bound cap) [
  | inl b ↦ below_cap cap value more cost bound is b h
  | inr b ↦ omega (arith, f, below, b)
]

-- the fastest point's bounds are below the cap; then the bounds of every point hold
pub bounded_at : (t : SubTasks) (slow fast : Prices) (cap k : ℕ) → IsSlower slow fast → IsBound t slow cap k
    → IsBound t fast cap k → fast.bound k < cap → IsBounded t slow k
bounded_at t slow fast cap k s b f below =
    let lines = mul-le-mul_right (t.lines k) s.miss in
    record {
      inside = λ es piece.
          let first = below_cap cap f.value (fast.miss * t.lines k)
          (walk_cost fast (t.charged k) t.flow (first_of_sub t k) es) (fast.bound k) f.is below
          (λ v. f.most.inside v es piece) in
          let w = walk_slower slow fast s (t.charged k) t.flow (first_of_sub t k) es in
          by_fast cap b.value (slow.miss * t.lines k) (walk_cost slow (t.charged k) t.flow (first_of_sub t k) es)
          (slow.bound k) b.is (λ v. b.most.inside v es piece) (fast.bound k) (omega (arith, first, w, lines)) below;
      into = λ c piece exits.
          let first = below_cap cap f.value (fast.miss * t.lines k)
          (fast.edge c.exit + walk_cost fast (t.charged k) t.flow (first_of_sub t k) c.edges) (fast.bound k) f.is
          below (λ v. f.most.into v c piece exits) in
          let w = walk_slower slow fast s (t.charged k) t.flow (first_of_sub t k) c.edges in
          let e = s.edge c.exit in
          by_fast cap b.value (slow.miss * t.lines k)
          (slow.edge c.exit + walk_cost slow (t.charged k) t.flow (first_of_sub t k) c.edges) (slow.bound k) b.is
          (λ v. b.most.into v c piece exits) (fast.bound k) (omega (arith, first, w, e, lines)) below;
    }

-- the bounds of n sub-tasks are some of those that remain
pub span_sum : (bounds : List ℕ) (i n : ℕ) → i + n ≤ length bounds
    → span (λ k. get_or bounds k 0) i n + sum_of (drop (i + n) bounds) ≡ sum_of (drop i bounds)
span_sum bounds i zero h =
    let e : i + 0 ≡ i = omega arith in
    let same = ap (λ n. sum_of (drop n bounds)) e in
    omega (arith, same)
span_sum bounds i (suc n) h =
    let d = drop_more bounds (i + n) 0 (omega arith) in
    let e : i + n + 1 ≡ i + suc n = omega arith in
    omega (arith, span_sum bounds i n (omega arith), ap sum_of d, ap (λ m. sum_of (drop m bounds)) e)
