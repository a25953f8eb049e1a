-- The time that a job may need.
use Rattle.std.proofs.Common.{◌≡◌, ◌∙◌, ap, subst, ℕ, ◌+◌, ◌-◌, ◌^◌, ◌<◌, ◌≤◌, List, [], length, All, sum, get_or, zero, suc, arith}
use Rattle.std.proofs.Math.Nat.{mul-le-mul_left}
use Rattle.std.proofs.lemmas.List.Elements.{All-get_or}
use Rattle.task_text.specs.Limits.{KeepsLimits}
use Rattle.task_text.specs.TaskParts.{fastest_ps}
use Rattle.task_text.specs.declared.task.Task.{Task}
use Rattle.task_text.proofs.TaskParts.{fastest_within}
use Rattle.checkpoint_plan.specs.Limits.{AreBounds, IsPeriod}
use Rattle.checkpoint_plan.specs.Plan.{overhead_of, owed_of, rem_of}
use Rattle.checkpoint_plan.proofs.Sums.{IsSummed, summed_all, summed_fits, summed_none, summed_one}
use Rattle.admission.specs.Admitted.{fastest_bounds, needed_of}
use Rattle.admission.specs.declared.mode.Mode.TheVariants.{Simple, Fast}
use Rattle.admission.specs.Rows.{row_at}

pub fastest_period : (t : Task) → KeepsLimits t → IsPeriod (fastest_ps t)
fastest_period t keeps = let w = fastest_within t keeps in record { least = w.0; most = w.1 }

summed_to : (bounds : List ℕ) → AreBounds bounds → (i : ℕ) → i ≤ length bounds → (so_far : ℕ) × IsSummed bounds i so_far
summed_to bounds are zero below = (0, summed_none bounds)
summed_to bounds are (suc i) below =
    let before = summed_to bounds are i (omega (arith, below)) in
    (before.0 + get_or bounds i 0, subst (λ n. IsSummed bounds n (before.0 + get_or bounds i 0)) (next i) (summed_one bounds i before.0 are (omega (arith, below)) before.1))
  where
    next : (i : ℕ) → i + 1 ≡ suc i
    next i = omega arith

pub rest_small : (bounds : List ℕ) (pb : ℕ) → AreBounds bounds → IsPeriod pb → rem_of bounds pb < 2 ^ 100
unfolding rem_of
rest_small bounds pb are is =
    let whole = summed_to bounds are (length bounds) (omega arith) in
    let all = summed_all bounds (length bounds) whole.0 (omega arith) (omega arith) whole.1 in
    let small = summed_fits bounds (length bounds) whole.0 are (omega arith) whole.1 in
    omega (arith, mul-le-mul_left (5 + sum bounds) is.most, small, all)

-- a row of the bounds at the fastest point
pub fastest_row : (rows : List (List ℕ)) (n : ℕ) → length rows ≡ n → 0 < n → All AreBounds rows → AreBounds (row_at rows (n - 1))
fastest_row rows n long some all = All-get_or AreBounds rows (n - 1) [] (omega (arith, long, some)) all

pub fastest_some : (rows : List (List ℕ)) (n : ℕ) → length rows ≡ n → 0 < n → All (λ (row : List ℕ). 1 ≤ length row) rows → 1 ≤ length (row_at rows (n - 1))
fastest_some rows n long some all = All-get_or (λ (row : List ℕ). 1 ≤ length row) rows (n - 1) [] (omega (arith, long, some)) all

pub simple_needed : (t : Task) (rows : List (List ℕ)) (row : List ℕ) (period start rest : ℕ) → row ≡ fastest_bounds t rows
    → period ≡ fastest_ps t → start ≡ t.machine.start_ps → rest ≡ rem_of row period → start + rest ≡ needed_of Simple t rows
unfolding needed_of
simple_needed t rows row period start rest row_is period_is start_is rest_is =
    ap (λ n. n + rest) start_is ∙ ap (λ n. t.machine.start_ps + n) (rest_is ∙ ap (λ (r : List ℕ). rem_of r period) row_is ∙ ap (rem_of (fastest_bounds t rows)) period_is)

pub fast_needed : (t : Task) (rows : List (List ℕ)) (row : List ℕ) (period start overhead rest : ℕ) → row ≡ fastest_bounds t rows
    → period ≡ fastest_ps t → start ≡ t.machine.start_ps → overhead ≡ overhead_of t.machine period period → rest ≡ rem_of row period
    → start + overhead + rest ≡ needed_of Fast t rows
unfolding needed_of owed_of
fast_needed t rows row period start overhead rest row_is period_is start_is overhead_is rest_is =
    ap (λ n. n + overhead + rest) start_is ∙ ap (λ n. t.machine.start_ps + n + rest) (overhead_is ∙ ap (λ p. overhead_of t.machine p p) period_is)
    ∙ ap (λ n. t.machine.start_ps + overhead_of t.machine (fastest_ps t) (fastest_ps t) + n)
    (rest_is ∙ ap (λ (r : List ℕ). rem_of r period) row_is ∙ ap (rem_of (fastest_bounds t rows)) period_is)
