-- A pair of points that is chosen has a plan, where the task was admitted for fast mode.
use Rattle.std.proofs.Common.{◌≡◌, refl, ap, subst, ◌∙◌, ℕ, ◌-◌, ◌≤◌, ◌<◌, List, length, Option, Some, None, arith}
use Rattle.std.specs.Prelude.{slice_index}
use Rattle.mips_ref.specs.Mips.{Held}
use Rattle.task_text.specs.TaskParts.{fastest_ps}
use Rattle.task_text.specs.declared.task.Task.{Task}
use Rattle.task_text.proofs.TaskParts.{last_is}
use Rattle.checkpoint_plan.specs.Plan.{owed_of}
use Rattle.checkpoint_plan.specs.declared.plan.Plan.{Plan}
use Rattle.frequency_pick.specs.Choice.{plan_of}
use Rattle.admission.specs.Admitted.{fastest_bounds, needed_of}
use Rattle.admission.specs.Plans.{IsPlanOf}
use Rattle.admission.specs.Found.{bounds_at}
use Rattle.admission.specs.declared.mode.Mode.{Mode}
use Rattle.admission.specs.declared.mode.Mode.TheVariants.{Fast}
use Rattle.mode_states.specs.Kept.{IsKept, IsPlanned, fastest}
use Rattle.mode_states.specs.declared.kept.Kept.{Kept}
use Rattle.mode_states.proofs.InTime.{some_points}
use Rattle.mode_states.proofs.Times.{times_of}
use Rattle.job_runner.specs.Job.{Before, Setting, pair_of}
use Rattle.job_runner.specs.Opens.{IsRunnable}
use Rattle.job_runner.specs.Running.{fastest_pair}
use Rattle.job_runner.proofs.Choosing.{chosen}

-- what the last point owes twice is left before the deadline
fast_owed : (mode : Mode) (t : Task) (bounds : List (List ℕ)) → mode ≡ Fast → needed_of mode t bounds ≤ t.deadline_ps
    → owed_of t.machine (fastest_ps t) (fastest_ps t) (fastest_bounds t bounds) ≤ t.deadline_ps
unfolding needed_of
fast_owed mode t bounds is h = subst (λ m. needed_of m t bounds ≤ t.deadline_ps) is h

not_without : (t : Task) (bounds : List (List ℕ)) (a : ℕ) (o : Option Plan) → a ≡ length t.points - 1
    → owed_of t.machine (fastest_ps t) (fastest_ps t) (fastest_bounds t bounds) ≤ t.deadline_ps
    → IsPlanOf t bounds a a o
    → (p : Plan) × (o ≡ Some p)
not_without t bounds a (Some p) last owed is = (p, refl)
not_without t bounds a None last owed short =
    let period : slice_index t.points a ≡ fastest_ps t = ap (λ i. slice_index t.points i) last ∙ last_is t.points in
    let same : owed_of t.machine (slice_index t.points a) (slice_index t.points a) (bounds_at bounds a)
    ≡ owed_of t.machine (fastest_ps t) (fastest_ps t) (fastest_bounds t bounds) =
    λ i. owed_of t.machine (period i) (period i) (bounds_at bounds (last i)) in
    absurd (omega (arith, short, same, owed))

-- so the fastest pair has a plan
pub fastest_planned : (k : Kept) (x : Held) → (h : IsKept k x) → h.made.mode ≡ Fast → IsPlanned k (fastest_pair k)
fastest_planned k x h fast =
    let t = h.task in
    let made = h.made.admitted in
    let a : ℕ = fastest k in
    let some = some_points k x h in
    let count = ap (λ (q : Kept). length q.points) h.is in
    let last : a ≡ length t.points - 1 = ap (λ n. n - 1) count in
    let below : a < length t.points = omega (arith, some, count) in
    let there = not_without t k.admitted.bounds a (plan_of k.admitted.plans (fastest_pair k)) last
    (fast_owed h.made.mode t k.admitted.bounds fast made.in_time) (made.plans.are a a below below) in
    record { speculative = omega (arith, some); recovery = omega (arith, some); plan = there.0; is = there.1 }

-- and so has a pair that is chosen, whatever was counted
pub pair_planned : (s : Setting) (b : Before) → IsRunnable Fast s → IsPlanned s.kept (pair_of s b)
pair_planned s b h =
    chosen s.kept b.counts (times_of s.kept _ h.opens) (fastest_planned s.kept _ h.opens h.mode_is)
