-- Operating points: slower ones cost no more cycles, and the bounds of the fastest are small.
use Rattle.std.proofs.Common.{◌≡◌, ◌∙◌, refl, sym, ap, ℕ, zero, suc, ◌+◌, ◌-◌, ◌*◌, ◌<◌, ◌≤◌, List, [], ◌∷◌, length, arith, inl, inr, sum, mul-le-mul_right}
use Rattle.std.specs.Prelude.{All, Option, Some, None, slice_index, unwrap_or}
use Rattle.std.specs.Int.{div_ceil}
use Rattle.std.specs.List.{last_or}
use Rattle.std.proofs.lemmas.Bool.{cases_lt}
use Rattle.std.proofs.lemmas.Grind.{div_ceil_times}
use Rattle.std.proofs.lemmas.List.Sums.{sum_by-cons}
use Rattle.visa_io.specs.declared.records.Machine.{Machine}
use Rattle.visa_io.specs.declared.records.Code.{Code}
use Rattle.mips_isa.specs.Kinds.{kind_of}
use Rattle.mips_isa.specs.declared.instr.Instr.{Instr}
use Rattle.mips_isa.specs.declared.instr.Kind.{Kind}
use Rattle.mips_isa.specs.declared.instr.Kind.TheVariants as sort
use Rattle.task_text.specs.Limits.{AreFalling, KeepsLimits}
use Rattle.task_text.specs.TaskParts.{fastest_ps}
use Rattle.task_text.specs.declared.task.Task.{Task}
use Rattle.flow_graph.specs.Code.{instr_at}
use Rattle.loop_regions.specs.Costs.{Prices}
use Rattle.checkpoint_plan.specs.Plan.{owed_of, rem_of}
use Rattle.path_wcet.specs.Paid.{cap}
use Rattle.path_wcet.specs.Static.{more_of}
use Rattle.remaining_wcet.specs.Bounds.{IsSlower, sum_of}
use Rattle.timed_jobs.specs.Pace.{base_if}
use Rattle.admission.specs.Admitted.{fastest_bounds, needed_of}
use Rattle.admission.specs.Found.{bounds_at, pen_of}
use Rattle.admission.specs.declared.mode.Mode.{Mode}
use Rattle.admission.specs.declared.mode.Mode.TheVariants.{Simple, Fast}
use Rattle.admitted_jobs.proofs.Prices.{ArePrices, base_is, pace_in}

-- a sum, counted from either end
pub same_sum : (ns : List ℕ) → sum_of ns ≡ sum ns
same_sum [] = refl
same_sum (n ∷ ns) = ap (λ m. n + m) (same_sum ns) ∙ sym (sum_by-cons (λ m. m) n ns)

-- periods fall
later_below : (ps : List ℕ) (bound i : ℕ) → All (λ q. q < bound) ps → i < length ps → slice_index ps i < bound
later_below ps bound i all below = all i 0 below

falls : (ps : List ℕ) (i j : ℕ) → AreFalling ps → i ≤ j → j < length ps → slice_index ps j ≤ slice_index ps i
falls [] i j falling le below = absurd (omega (arith, below))
falls (p ∷ ps) zero zero falling le below = omega arith
falls (p ∷ ps) zero (suc j) falling le below = let less = later_below ps p j falling.0 (omega (arith, below)) in omega
    (arith, less)
falls (p ∷ ps) (suc i) zero falling le below = absurd (omega (arith, le))
falls (p ∷ ps) (suc i) (suc j) falling le below = falls ps i j falling.1 (omega (arith, le)) (omega (arith, below))

last_is : (o : Option ℕ) (p : ℕ) (ps : List ℕ) → unwrap_or (last_or o (p ∷ ps)) 0 ≡ slice_index (p ∷ ps) (length ps)
last_is o p [] = refl
last_is o p (q ∷ ps) = last_is (Some p) q ps

pub fastest_is : (ps : List ℕ) → 0 < length ps → unwrap_or (last_or None ps) 0 ≡ slice_index ps (length ps - 1)
fastest_is [] some = absurd (omega (arith, some))
fastest_is (p ∷ ps) some = last_is None p ps ∙ ap (slice_index (p ∷ ps)) (omega arith)

-- a longer period takes no more cycles
ceil_apart : (a slow fast c d : ℕ) → a ≤ d * fast → c * slow < a + slow → fast ≤ slow → d < c → ⊥
ceil_apart a slow fast c d low high le less =
    omega (
      arith,
      low,
      high,
      mul-le-mul_right {m = fast} {n = slow} d le,
      mul-le-mul_right {m = d + 1} {n = c} slow
          (omega (arith, less)),
    )

ceil_falls : (a slow fast : ℕ) → 0 < fast → fast ≤ slow → div_ceil a slow ≤ div_ceil a fast
ceil_falls a slow fast some le = elim (cases_lt (div_ceil a fast) (div_ceil a slow)) [
  | inl less ↦ absurd (ceil_apart a slow fast (div_ceil a slow) (div_ceil a fast) (div_ceil_times a fast some).0
      (div_ceil_times a slow (omega (arith, some, le))).1 le less)
  | inr ge ↦ ge
]

more_slower : (k : Kind) (m : Machine) (slow fast : ℕ) → 0 < fast → fast ≤ slow
    → more_of k (pen_of m slow) ≤ more_of k (pen_of m fast)
more_slower sort.Plain m slow fast some le = omega arith
more_slower sort.Mul m slow fast some le = omega arith
more_slower sort.Div m slow fast some le = omega arith
more_slower sort.Load m slow fast some le = let less = ceil_falls m.mem_ps slow fast some le in omega (arith, less)
more_slower sort.Store m slow fast some le = ceil_falls m.store_ps slow fast some le
more_slower sort.Branch m slow fast some le = omega arith
more_slower sort.Jump m slow fast some le = omega arith
more_slower sort.Call m slow fast some le = omega arith
more_slower sort.Return m slow fast some le = omega arith
more_slower sort.Indirect m slow fast some le = omega arith
more_slower sort.Stop m slow fast some le = omega arith

base_slower : (m : Machine) (slow fast : ℕ) (o : Option Instr) → 0 < fast → fast ≤ slow
    → base_if (pace_in m slow) o ≤ base_if (pace_in m fast) o
base_slower m slow fast None some le = omega arith
base_slower m slow fast (Some i) some le = omega (
  arith,
  base_is m slow i,
  base_is m fast i,
  more_slower (kind_of i) m
      slow fast some le,
)

-- at a slower point nothing costs more cycles
pub slower_of : (m : Machine) (code : Code) (slow fast : ℕ) (p q : Prices) → 0 < fast → fast ≤ slow
    → ArePrices m slow code p → ArePrices m fast code q
    → IsSlower p q
slower_of m code slow fast p q some le one other = record {
  base = λ a.
      let first = ap (λ f. f a) one.base in
      let second = ap (λ f. f a) other.base in
      let less = base_slower m slow fast (instr_at code a) some le in
      omega (arith, first, second, less);
  edge = λ e. let same = ap (λ f. f e) (one.edge ∙ sym other.edge) in omega (arith, same);
  miss = let less = ceil_falls m.mem_ps slow fast some le in omega (arith, less, one.miss, other.miss);
}

-- a task's points
pub record IsPoint (t : Task) (point : ℕ) : Type 0 where
  pub slow : slice_index t.points (length t.points - 1) ≤ slice_index t.points point
  pub some : 0 < slice_index t.points (length t.points - 1)
  pub within : length t.points - 1 < length t.points
  pub fastest : fastest_ps t ≡ slice_index t.points (length t.points - 1)

pub point_of : (t : Task) (point : ℕ) → KeepsLimits t → point < length t.points → IsPoint t point
point_of t point limits below =
    let last : length t.points - 1 < length t.points = omega (arith, below) in
    record {
      slow = falls t.points point (length t.points - 1) limits.points.falling (omega (arith, below)) last;
      some = let each = limits.points.each (length t.points - 1) 0 last in omega (arith, each.0);
      within = last;
      fastest = fastest_is t.points limits.points.some;
    }

-- the bounds of the fastest point add up to less than the greatest number that a bound may have
rem_covers : (bounds : List ℕ) (period : ℕ) → 0 < period → sum bounds ≤ rem_of bounds period
unfolding rem_of
rem_covers bounds period some =
    covers (sum bounds) period some
  where
    covers : (n p : ℕ) → 0 < p → n ≤ (5 + n) * p
    covers n p some = omega (arith, mul-le-mul_right {m = 1} {n = p} (5 + n) (omega (arith, some)))

needs : (mode : Mode) (t : Task) (bounds : List (List ℕ))
    → rem_of (fastest_bounds t bounds) (fastest_ps t) ≤ needed_of mode t bounds
unfolding needed_of owed_of
needs Simple t bounds = omega arith
needs Fast t bounds = omega arith

pub small_of : (mode : Mode) (t : Task) (bounds : List (List ℕ)) (point : ℕ) → KeepsLimits t → IsPoint t point
    → needed_of mode t bounds ≤ t.deadline_ps
    → sum_of (bounds_at bounds (length t.points - 1)) < cap
small_of mode t bounds point limits at in_time =
    let rem = rem_covers (fastest_bounds t bounds) (fastest_ps t) (omega (arith, at.fastest, at.some)) in
    let same = same_sum (bounds_at bounds (length t.points - 1)) in
    omega (arith, rem, needs mode t bounds, in_time, same, limits.deadline.1, limits.period.1)
