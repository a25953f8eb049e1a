-- A job of an admitted task ends, and a suffix of it has few instructions.
use Rattle.std.proofs.Common.{◌≡◌, refl, sym, ap, subst, ◌∙◌, ◌⊎◌, inl, inr, ℕ, zero, suc, ◌+◌, ◌*◌, ◌≤◌, ◌<◌, Bool, true, false, List, [], ◌∷◌, ◌++◌, length, drop, arith, append-nil}
use Rattle.std.proofs.lemmas.Bool.{cases_eq}
use Rattle.loop_regions.specs.Costs.{Prices}
use Rattle.loop_regions.specs.Places.{ats}
use Rattle.remaining_wcet.specs.Executed.{Clock, total_cost, misses}
use Rattle.remaining_wcet.specs.SubTasks.{SubTasks, first_of_sub}
use Rattle.remaining_wcet.specs.Ways.{Words, Done, AreCheap, executed_of}
use Rattle.remaining_wcet.specs.Bounds.{IsBound, IsSlower, sum_of}
use Rattle.remaining_wcet.specs.Runs.{IsRun, IsFew, EndsAfter, done_by, done_ats, oldest_done, after}
use Rattle.remaining_wcet.specs.Admitted.{IsAnalysed, IsPriced}
use Rattle.remaining_wcet.proofs.Bounds.{walk_slower}
use Rattle.remaining_wcet.proofs.Every.{known_of}
use Rattle.remaining_wcet.proofs.Jobs.{part_in_time}

-- the same prices with no misses
abbrev pub free_of : Prices → Prices
free_of p = record { base = p.base; edge = p.edge; miss = 0; bound = p.bound }

free_slower : (p fast : Prices) → IsSlower p fast → IsSlower (free_of p) fast
free_slower p fast s = record { base = s.base; edge = s.edge; miss = omega arith }

free_self : (p : Prices) → IsSlower (free_of p) p
free_self p = record { base = λ a. omega arith; edge = λ e. omega arith; miss = omega arith }

free_bound : (t : SubTasks) (p : Prices) (cap k : ℕ) → IsBound t p cap k → IsBound t (free_of p) cap k
free_bound t p cap k b =
    let more = p.miss * t.lines k in
    record {
      value = b.value + p.miss * t.lines k;
      most = record {
        inside = λ below es piece.
            let w = walk_slower (free_of p) p (free_self p) (t.charged k) t.flow (first_of_sub t k) es in
            let m = b.most.inside (omega (arith, below)) es piece in omega (arith, w, m);
        into = λ below c piece exits.
            let w = walk_slower (free_of p) p (free_self p) (t.charged k) t.flow (first_of_sub t k) c.edges in
            let m = b.most.into (omega (arith, below)) c piece exits in omega (arith, w, m);
      };
      is = let e = b.is in omega (arith, e);
    }

free_priced : (t : SubTasks) (w : Words) (slow fast : Prices) (cap : ℕ) (bounds fast_bounds : List ℕ)
    → IsPriced t w slow fast cap bounds fast_bounds → IsPriced t w (free_of slow) fast cap bounds fast_bounds
free_priced t w slow fast cap bounds fast_bounds p = record {
  slower = free_slower slow fast p.slower;
  edges = p.edges;
  as_list = p.as_list;
  fast_list = p.fast_list;
  long = p.long;
  bound = λ k in_it. free_bound t slow cap k (p.bound k in_it);
  fast_bound = p.fast_bound;
  small = p.small;
}

-- a clock in which nothing misses and each instruction costs one cycle
abbrev pub counting : Clock
counting = record { hits = λ fetched. true; rest = λ ops. 1 }

none_miss : (fetched older : List ℕ) → misses counting.hits fetched older ≡ 0
none_miss [] older = refl
none_miss (a ∷ fetched) older = omega (arith, none_miss fetched older)

counts : (p : Prices) (w : Words) (ds : List Done) → length ds ≤ total_cost counting p (executed_of w ds)
counts p w [] = omega arith
counts p w (d ∷ ds) = omega (arith, counts p w ds)

all_cheap : (p : Prices) (w : Words) → ((a : ℕ) → 1 ≤ p.base a) → (ds : List Done)
    → AreCheap counting p (executed_of w ds)
all_cheap p w h [] = tt
all_cheap p w h (d ∷ ds) = (λ older. h d.at, all_cheap p w h ds)

-- any part of a run has at most as many instructions as the sum of the bounds that remain
pub few_from : (t : SubTasks) (units : ℕ → List ℕ) (w : Words) (slow fast : Prices) (cap : ℕ) (bounds fast_bounds : List ℕ)
    → IsAnalysed t units w → IsPriced t w slow fast cap bounds fast_bounds
    → ((a : ℕ) → 1 ≤ slow.base a) → (d : Done) (rest before : List Done) → IsRun t w ((d ∷ rest) ++ before)
    → IsFew t bounds (d ∷ rest) (oldest_done 0 (d ∷ rest)) (done_ats before)
few_from t units w slow fast cap bounds fast_bounds a p costly d rest before run =
    let q = free_priced t w slow fast cap bounds fast_bounds p in
    let known = known_of t units w (free_of slow) fast cap bounds fast_bounds counting a q
    (λ k es piece by later part skipped e older. let n = none_miss (ats part) older in omega (arith, n)) in
    let s = part_in_time t units w (free_of slow) counting bounds a.functions a.cuts a.kinds known q.edges q.as_list
    q.long d rest before run (all_cheap (free_of slow) w costly (d ∷ rest)) in
    record { sub = s.sub; inside = s.inside; few = omega (arith, counts (free_of slow) w (d ∷ rest), s.cost) }

drop_less : (ns : List ℕ) (k : ℕ) → sum_of (drop k ns) ≤ sum_of ns
drop_less ns zero = omega arith
drop_less [] (suc k) = omega arith
drop_less (n ∷ ns) (suc k) = omega (arith, drop_less ns k)

-- the first step that doesn't go, if one of the first m doesn't
search_end : {S : Type 0} (step : S → S) (went : S → Bool) (x : S) (m : ℕ)
    → ((n : ℕ) × EndsAfter step went x n) ⊎ ((k : ℕ) → k < m → went (after step k x) ≡ true)
search_end step went x zero = inr (λ k below. absurd (omega (arith, below)))
search_end step went x (suc m) = elim (search_end step went x m) [
  | inl found ↦ inl found
  | inr all ↦ here (went (after step m x)) refl all
]
  where
    here : (b : Bool) → went (after step m x) ≡ b → ((k : ℕ) → k < m → went (after step k x) ≡ true)
        → ((n : ℕ) × EndsAfter step went x n) ⊎ ((k : ℕ) → k < suc m → went (after step k x) ≡ true)
    here false e all = inl (m, record { all = all; ended = e })
    here true e all =
        inr
        (λ k below. elim (cases_eq k m) [ inl same ↦ ap (λ n. went (after step n x)) same ∙ e | inr other ↦ all k (omega (arith, below, other)) ])

-- a job ends: else more steps would go than the bounds allow
pub job_ends : (t : SubTasks) (units : ℕ → List ℕ) (w : Words) (slow fast : Prices) (cap : ℕ) (bounds fast_bounds : List ℕ)
    → IsAnalysed t units w → IsPriced t w slow fast cap bounds fast_bounds
    → ((a : ℕ) → 1 ≤ slow.base a) → {S : Type 0} (step : S → S) (done : S → Done) (went : S → Bool) (x : S)
    → ((m : ℕ) → ((k : ℕ) → k < m → went (after step k x) ≡ true) → IsRun t w (done_by step done m x))
    → (n : ℕ) × EndsAfter step went x n
unfolding done_by
job_ends t units w slow fast cap bounds fast_bounds a p costly step done went x runs =
    elim (search_end step went x (suc (sum_of bounds))) [
      | inl found ↦ found
      | inr all ↦
          let run = subst (IsRun t w) (sym (append-nil (done_by step done (suc (sum_of bounds)) x)))
          (runs (suc (sum_of bounds)) all) in
          let f = few_from t units w slow fast cap bounds fast_bounds a p costly (done (after step (sum_of bounds) x))
          (done_by step done (sum_of bounds) x) [] run in
          absurd (omega (arith, f.few, drop_less bounds f.sub, long step done (sum_of bounds) x))
    ]
  where
    long : {S : Type 0} (step : S → S) (done : S → Done) (n : ℕ) (x : S) → length (done_by step done n x) ≡ n
    long step done zero x = refl
    long step done (suc n) x = ap suc (long step done n x)
