-- The lines of a check have room, and say what admission found.
use Rattle.std.proofs.Common.{◌≡◌, ◌∙◌, refl, sym, ap, subst, ℕ, suc, ◌+◌, ◌-◌, ◌*◌, ◌^◌, ◌<◌, ◌≤◌, List, [], ◌∷◌, length, arith, Some}
use Rattle.std.specs.Prelude.{All, Option, slice_index, sum}
use Rattle.std.proofs.Common.{mul-le-mul}
use Rattle.std.proofs.lemmas.List.Sums.{sum_by-cons}
use Rattle.std.proofs.lemmas.List.{length-map}
use Rattle.task_text.specs.declared.task.Task.{Task}
use Rattle.checkpoint_plan.specs.Limits.{AreBounds}
use Rattle.checkpoint_plan.specs.Plan.{IsPlan, checkpoint_of, overhead_of, rem_of, rems_of, watchdog_of}
use Rattle.checkpoint_plan.specs.declared.plan.Plan.{Plan}
use Rattle.frequency_pick.specs.Choice.{plan_of}
use Rattle.frequency_pick.specs.declared.plans.Pair.{Pair}
use Rattle.task_text.specs.Limits.{KeepsLimits}
use Rattle.admission.specs.Plans.{IsPlanOf}
use Rattle.admission.specs.Found.{bounds_at}
use Rattle.admission.specs.declared.mode.Mode.{Mode}
use Rattle.checkpoint_plan.proofs.Rems.{owed_parts}
use Rattle.visa_cli.specs.Admission.{IsFit}
use Rattle.visa_cli.specs.Check.{short_by}
use Rattle.visa_cli.specs.declared.admit.AdmittedTask.{AdmittedTask}
use Rattle.visa_io.specs.Puts.{PutAll, PutSome, Taken}
use Rattle.log_text.specs.Check.{bound_lines}
use Rattle.visa_cli.proofs.Admissions.{rows_are}

rems-length : (bounds : List ℕ) (pb : ℕ) → length (rems_of bounds pb) ≡ length bounds
unfolding rems_of
rems-length [] pb = refl
rems-length (b ∷ rest) pb = omega (arith, rems-length rest pb)

watchdogs-length : (t : Task) (bounds : List ℕ) (a b pa pb : ℕ) (p : Plan) → IsPlan t bounds a b pa pb p → length p.watchdog ≡ length bounds
watchdogs-length t bounds a b pa pb p is =
    ap length is.watchdogs_are ∙ length-map p.checkpoint_ps (watchdog_of pa) ∙ ap length is.checkpoints_are
    ∙ length-map (rems_of bounds pb) (checkpoint_of t pa pb) ∙ rems-length bounds pb

-- the row of a point
pub row_fit : (mode : Mode) (x : AdmittedTask) (b : ℕ) → IsFit mode x → b < length x.task.points → AreBounds (bounds_at x.times.bounds b)
row_fit mode x b fit below = rows_are mode x.task fit.image x.times b fit.limits fit.admitted below

-- a plan has few watchdogs
pub watchdogs_few : (mode : Mode) (x : AdmittedTask) (a b : ℕ) (pair : Pair) (p : Plan) → IsFit mode x → a < length x.task.points → b < length x.task.points
    → pair ≡ record { a = a; b = b } → plan_of x.times.plans pair ≡ Some p → length p.watchdog ≤ 32
watchdogs_few mode x a b pair p fit first second is found =
    let t : Task = x.task in
    let Of : Option Plan → Type 0 = λ o. IsPlanOf t x.times.bounds a b o in
    let plan = subst Of (ap (plan_of x.times.plans) (sym is) ∙ found) (fit.admitted.plans.are a b first second) in
    let rows = row_fit mode x b fit second in
    omega (arith, watchdogs-length t (bounds_at x.times.bounds b) a b (slice_index t.points a) (slice_index t.points b) p plan, rows.few)

-- what remains is far below 2^128 ps
sum_low : (ns : List ℕ) → All (λ n. n ≤ 10 ^ 18) ns → sum ns ≤ length ns * 10 ^ 18
sum_low [] all = omega arith
sum_low (n ∷ ns) all =
    omega (arith, sum_by-cons (λ (m : ℕ). m) n ns, all 0 n (omega arith), sum_low ns (λ k d less. all (suc k) d (omega (arith, less))))

pub rem_low : (bounds : List ℕ) (pb : ℕ) → AreBounds bounds → pb ≤ 10 ^ 6 → rem_of bounds pb < 2 ^ 100
unfolding rem_of
rem_low bounds pb are most =
    let low : 5 + sum bounds ≤ 5 + 32 * 10 ^ 18 = omega (arith, sum_low bounds are.each, are.few) in
    let product = mul-le-mul {n₁ = 5 + sum bounds} {m₁ = pb} {n₂ = 5 + 32 * 10 ^ 18} {m₂ = 10 ^ 6} low most in
    omega (arith, product)

-- the same of the lists that the code has
pub left_low : (t : Task) (bounds : List (List ℕ)) (points row : List ℕ) (b left : ℕ) → KeepsLimits t → b < length t.points → AreBounds (bounds_at bounds b)
    → points ≡ t.points → row ≡ bounds_at bounds b → left ≡ rem_of row (slice_index points b) → left < 2 ^ 100
left_low t bounds points row b left limits below are ps r l =
    let low = rem_low (bounds_at bounds b) (slice_index t.points b) are (limits.points.each b 0 below).1 in
    let same : left ≡ rem_of (bounds_at bounds b) (slice_index t.points b) = l ∙ (λ i. rem_of (r i) (slice_index (ps i) b)) in
    omega (arith, low, same)

pub short_is : (t : Task) (bounds : List (List ℕ)) (first second row : List ℕ) (a b start overhead left : ℕ) → first ≡ t.points → second ≡ t.points
    → row ≡ bounds_at bounds b → start ≡ t.machine.start_ps → overhead ≡ overhead_of t.machine (slice_index first a) (slice_index second b)
    → left ≡ rem_of row (slice_index second b) → start + overhead + left - t.deadline_ps ≡ short_by t bounds a b
short_is t bounds first second row a b start overhead left f n r s o l =
    ap (λ m. m - t.deadline_ps) (owed_parts t.machine (slice_index t.points a) (slice_index t.points b) (bounds_at bounds b) start overhead left s
    (o ∙ (λ i. overhead_of t.machine (slice_index (f i) a) (slice_index (n i) b))) (l ∙ (λ i. rem_of (r i) (slice_index (n i) b))))

-- the lines of a row that is another
pub row_put : {s u : Taken} (point : ℕ) (row other : List ℕ) → row ≡ other → PutAll s u (bound_lines point row) → PutAll s u (bound_lines point other)
row_put {s} {u} point row other same puts = let All : List ℕ → Type 0 = λ r. PutAll s u (bound_lines point r) in subst All same puts

pub row_stops : {s u : Taken} (point : ℕ) (row other : List ℕ) → row ≡ other → PutSome s u (bound_lines point row) → PutSome s u (bound_lines point other)
row_stops {s} {u} point row other same some = let Some : List ℕ → Type 0 = λ r. PutSome s u (bound_lines point r) in subst Some same some
