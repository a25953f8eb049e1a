-- The bounds and the plans that are kept of an admitted task are for all of its sub-tasks.
use Rattle.std.proofs.Common.{◌≡◌, sym, ap, subst, ◌∙◌, ℕ, ◌+◌, ◌*◌, ◌/◌, ◌%◌, ◌<◌, List, length, get_or, arith}
use Rattle.std.proofs.Math.Nat.{div-lt_iff_lt-mul, mod-lt}
use Rattle.std.proofs.lemmas.List.{length-map}
use Rattle.std.proofs.lemmas.List.Elements.{All-from_get_or}
use Rattle.std.proofs.lemmas.Nat.{div-add-mod'}
use Rattle.std.specs.Prelude.{slice_index, Option, Some, None}
use Rattle.mips_ref.specs.Mips.{Held}
use Rattle.task_text.specs.declared.task.Task.{Task}
use Rattle.checkpoint_plan.specs.Plan.{IsPlan, checkpoint_of, rems_of}
use Rattle.checkpoint_plan.specs.declared.plan.Plan.{Plan}
use Rattle.frequency_pick.specs.Choice.{IsFitting}
use Rattle.admission.specs.Found.{bounds_at}
use Rattle.admission.specs.Plans.{IsPlanOf}
use Rattle.mode_states.specs.Kept.{AreTimesOf, IsKept}
use Rattle.mode_states.specs.declared.kept.Kept.{Kept}
use Rattle.mode_states.proofs.InTime.{bounds_are, period_in, planned_points, rems_long, some_points}

checkpoints_long : (t : Task) (bounds : List ℕ) (a b pa pb : ℕ) (p : Plan) → IsPlan t bounds a b pa pb p
    → length p.checkpoint_ps ≡ length bounds
checkpoints_long t bounds a b pa pb p is =
    ap (λ (l : List ℕ). length l) is.checkpoints_are ∙ length-map (rems_of bounds pb) (checkpoint_of t pa pb)
    ∙ rems_long bounds pb

-- the plan of a pair is for as many sub-tasks as have bounds
fitting : (t : Task) (bounds : List (List ℕ)) (a b subs : ℕ) (o : Option Plan) → length (bounds_at bounds b) ≡ subs
    → 0 < slice_index t.points a → IsPlanOf t bounds a b o → IsFitting subs o
fitting t bounds a b subs None long some is = tt
fitting t bounds a b subs (Some p) long some is = (
  checkpoints_long t (bounds_at bounds b) a b (slice_index t.points a) (slice_index t.points b) p is ∙ long,
  omega (arith, some, is.period_is),
)

-- the plan at a place is that of a pair
fitting_at : (k : Kept) (x : Held) → IsKept k x → (i : ℕ) → i < length k.admitted.plans.plans
    → IsFitting (length k.cuts + 1) (get_or k.admitted.plans.plans i None)
fitting_at k x h i below =
    let t = h.task in
    let n : ℕ = length t.points in
    let count = ap (λ (q : Kept). length q.points) h.is in
    let some : 0 < n = omega (arith, some_points k x h, count) in
    let plans = h.made.admitted.plans in
    let in_a : i / n < n = (div-lt_iff_lt-mul {k = n} {x = i} {y = n} some).1 (omega (arith, below, plans.long)) in
    let in_b : i % n < n = mod-lt i {m = n} some in
    let place : i / n * k.admitted.plans.points + i % n ≡ i = ap (λ m. i / n * m + i % n) plans.points ∙ div-add-mod' i n in
    let is = plans.are (i / n) (i % n) in_a in_b in
    let there = subst (λ j. IsPlanOf t k.admitted.bounds (i / n) (i % n) (get_or k.admitted.plans.plans j None)) place is in
    let long = bounds_are k x h (i % n) (omega (arith, in_b, count)) in
    let period = period_in k x h (i / n) (omega (arith, in_a, count)) in
    let points = ap (λ (q : Kept). slice_index q.points (i / n)) h.is in
    fitting t k.admitted.bounds (i / n) (i % n) (length k.cuts + 1) (get_or k.admitted.plans.plans i None) long
    (omega (arith, period.least, points)) there

pub times_of : (k : Kept) (x : Held) → IsKept k x → AreTimesOf k
times_of k x h =
    let count = sym (ap (λ (q : Kept). length q.points) h.is) in
    record {
      some = some_points k x h;
      points = planned_points k x h;
      plans = All-from_get_or (IsFitting (length k.cuts + 1)) k.admitted.plans.plans None (fitting_at k x h);
      long = h.made.admitted.plans.long ∙ (λ i. count i * count i);
      rows = h.made.admitted.bounds.points ∙ sym (ap (λ (q : Kept). length q.points) h.is);
      subs = bounds_are k x h;
    }
