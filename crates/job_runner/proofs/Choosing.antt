-- The pair that is chosen has a plan.
use Rattle.std.proofs.Common.{◌≡◌, refl, sym, ap, subst, ◌∙◌, ℕ, ◌*◌, ◌/◌, ◌%◌, ◌<◌, true, false, List, get_or, arith}
use Rattle.std.proofs.Math.Nat.{div-lt_iff_lt-mul, mod-lt}
use Rattle.std.proofs.lemmas.List.Quantifiers.{position-Some}
use Rattle.std.proofs.lemmas.Nat.{div-add-mod'}
use Rattle.std.specs.Prelude.{Option, Some, None, position}
use Rattle.checkpoint_plan.specs.declared.plan.Plan.{Plan}
use Rattle.frequency_pick.specs.Choice.{PlanTable, choice, fastest, is_feasible, pair_at, pair_or_fastest}
use Rattle.frequency_pick.specs.Counts.{Count, StandsFor, prediction}
use Rattle.frequency_pick.specs.declared.plans.Pair.{Pair}
use Rattle.mode_states.specs.Kept.{AreTimesOf, IsPlanned}
use Rattle.mode_states.specs.declared.kept.Kept.{Kept}
use Rattle.job_runner.specs.Running.{IsTold, Running, fastest_pair}

-- a feasible pair has a plan
feasible_some : (predicted : ℕ → Option ℕ) (o : Option Plan) → is_feasible predicted o ≡ true → (p : Plan) × (o ≡ Some p)
unfolding is_feasible
feasible_some predicted None is = let no : false ≡ true = is in cc
feasible_some predicted (Some p) is = (p, refl)

planned_at : (k : Kept) (predicted : ℕ → Option ℕ) → AreTimesOf k → (i : ℕ)
    → position (is_feasible predicted) k.admitted.plans.plans ≡ Some i → IsPlanned k (pair_at k.admitted.plans.points i)
planned_at k predicted t i at =
    let n : ℕ = k.admitted.plans.points in
    let plans = k.admitted.plans.plans in
    let found = position-Some (is_feasible predicted) plans i None at in
    let some : 0 < n = omega (arith, t.some, t.points) in
    let square = ap (λ m. m * m) t.points in
    let within : i < n * n = omega (arith, found.0, t.long, square) in
    let in_a : i / n < n = (div-lt_iff_lt-mul {k = n} {x = i} {y = n} some).1 within in
    let in_b : i % n < n = mod-lt i {m = n} some in
    let plan = feasible_some predicted (get_or plans i None) found.1 in
    record {
      speculative = omega (arith, in_a, t.points);
      recovery = omega (arith, in_b, t.points);
      plan = plan.0;
      is = ap (λ j. get_or plans j None) (div-add-mod' i n) ∙ plan.1;
    }

by_place : (k : Kept) (predicted : ℕ → Option ℕ) → AreTimesOf k → IsPlanned k (fastest_pair k) → (o : Option ℕ)
    → position (is_feasible predicted) k.admitted.plans.plans ≡ o
    → IsPlanned k (pair_or_fastest k.admitted.plans.points o)
by_place k predicted t last None at = subst (λ n. IsPlanned k (fastest n)) (sym t.points) last
by_place k predicted t last (Some i) at = planned_at k predicted t i at

pub chosen : (k : Kept) (cs : List Count) → AreTimesOf k → IsPlanned k (fastest_pair k)
    → IsPlanned k (choice k.admitted.plans cs)
chosen k cs t last =
    by_place k (prediction cs) t last (position (is_feasible (prediction cs)) k.admitted.plans.plans) refl

-- so the pair that a runner picks has one
pub picked_planned : (was given : Running) (plans : PlanTable) (pair : Pair) → was ≡ given
    → IsTold was.idle.kept was.history → IsPlanned given.idle.kept (fastest_pair given.idle.kept)
    → AreTimesOf was.idle.kept → plans ≡ was.idle.kept.admitted.plans
    → ((cs : List Count) → StandsFor was.history cs → pair ≡ choice plans cs) → IsPlanned was.idle.kept pair
picked_planned was given plans pair was_is told planned times plans_are picked =
    let last = subst (λ (w : Running). IsPlanned w.idle.kept (fastest_pair w.idle.kept)) (sym was_is) planned in
    let pair_is = picked told.counts told.stands ∙ ap (λ t. choice t told.counts) plans_are in
    subst (λ q. IsPlanned was.idle.kept q) (sym pair_is) (chosen was.idle.kept told.counts times last)
