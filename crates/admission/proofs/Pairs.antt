-- The plans of pairs, one pair more.
use Rattle.std.specs.declared.alloc.Global.{Global}
use Rattle.checkpoint_plan.specs.Limits.{AreBounds}
use Rattle.std.proofs.Common.{◌≡◌, ◌∙◌, sym, ap, subst, ℕ, zero, suc, Vec, [], ◌+◌, ◌*◌, ◌/◌, ◌%◌, ◌<◌, ◌≤◌, List, All, length, Option, Some, None, Err, slice_index, slice_index_or, slice_set, arith, inl, inr}
use Rattle.std.proofs.Math.Nat.{add-mul-div_right, div-eq_of_lt, mod-lt, mul-le-mul_right}
use Rattle.std.proofs.lemmas.Bool.{cases_eq}
use Rattle.std.proofs.lemmas.Nat.{div-add-mod', mod-mul-add}
use Rattle.std.proofs.lemmas.List.{get_or-set_same, get_or-set_other, length-map, length-set}
use Rattle.std.proofs.lemmas.List.Elements.{All-get_or}
use Rattle.task_text.specs.declared.task.Task.{Task}
use Rattle.checkpoint_plan.specs.Plan.{IsAnswer, IsPlan, owed_of}
use Rattle.checkpoint_plan.specs.declared.plan.PlanFault.{PlanFault}
use Rattle.checkpoint_plan.specs.declared.plan.PlanFault.TheVariants.{Negative}
use Rattle.checkpoint_plan.specs.declared.plan.Plan.{Plan}
use Rattle.frequency_pick.specs.Choice.{PlanTable, place_of, plan_of}
use Rattle.admission.specs.Plans.{ArePlans, IsPlanOf}
use Rattle.admission.specs.Planned.{ArePlanned}
use Rattle.admission.specs.Rows.{row_at, rows_of}

-- the pair at a place has a plan
abbrev PlanAt : Task → List (List ℕ) → ℕ → ℕ → Option Plan → Type 0
PlanAt t bounds points j o = IsPlanOf t bounds (j / points) (j % points) o

put_at : (points k : ℕ) (p : Plan) → p.a ≡ k / points → p.b ≡ k % points → place_of points p.a p.b ≡ k
put_at points k p a b = ap (λ n. n * points + p.b) a ∙ ap (λ n. k / points * points + n) b ∙ div-add-mod' k points

pub plan_put : (t : Task) (bounds : List (List ℕ)) (points k : ℕ) (old new : PlanTable) (p : Plan) → ArePlanned t bounds points k old → k < points * points
    → IsPlan t (row_at bounds (k % points)) (k / points) (k % points) (slice_index t.points (k / points)) (slice_index t.points (k % points)) p
    → new.points ≡ old.points → new.plans ≡ slice_set old.plans (place_of old.points p.a p.b) (Some p) → ArePlanned t bounds points (k + 1) new
plan_put t bounds points k old new p so inside is same set = record {
  points_are = same ∙ so.points_are;
  long = ap length put ∙ length-set old.plans k (Some p) ∙ so.long;
  done = λ j below. elim (cases_eq j k) [
    | inl here ↦ subst (PlanAt t bounds points j) (sym (at_it j here)) (subst (λ n. PlanAt t bounds points n (Some p)) (sym here) is)
    | inr other ↦ subst (PlanAt t bounds points j) (sym (beside j other)) (so.done j (before j below other))
  ];
  rest = λ j above. beside j (after j above) ∙ so.rest j (omega arith);
}
  where
    put : new.plans ≡ slice_set old.plans k (Some p)
    put = set ∙ ap (λ n. slice_set old.plans n (Some p)) (ap (λ n. place_of n p.a p.b) so.points_are ∙ put_at points k p is.a_is is.b_is)

    at_it : (j : ℕ) → j ≡ k → slice_index_or new.plans j None ≡ Some p
    at_it j here = ap (λ (l : List (Option Plan)). slice_index_or l j None) put ∙ ap (λ n. slice_index_or (slice_set old.plans k (Some p)) n None) here
        ∙ get_or-set_same old.plans k (Some p) None (omega (arith, inside, so.long))

    beside : (j : ℕ) → (j ≡ k → ⊥) → slice_index_or new.plans j None ≡ slice_index_or old.plans j None
    beside j other = ap (λ (l : List (Option Plan)). slice_index_or l j None) put ∙ get_or-set_other old.plans k j (Some p) None other

    before : (j : ℕ) → j < k + 1 → (j ≡ k → ⊥) → j < k
    before j below other = omega (arith, below, other)

    after : (j : ℕ) → k + 1 ≤ j → j ≡ k → ⊥
    after j above here = omega (arith, above, here)

-- a pair without a plan
pub plan_passed : (t : Task) (bounds : List (List ℕ)) (points k : ℕ) (plans : PlanTable) → ArePlanned t bounds points k plans
    → t.deadline_ps < owed_of t.machine (slice_index t.points (k / points)) (slice_index t.points (k % points)) (row_at bounds (k % points))
    → ArePlanned t bounds points (k + 1) plans
plan_passed t bounds points k plans so late = record {
  points_are = so.points_are;
  long = so.long;
  done = λ j below. elim (cases_eq j k) [
    | inl here ↦ subst (PlanAt t bounds points j) (sym (so.rest j (omega (arith, here)))) (subst (λ n. PlanAt t bounds points n None) (sym here) late)
    | inr other ↦ so.done j (omega (arith, below, other))
  ];
  rest = λ j above. so.rest j (omega (arith, above));
}

-- all pairs are gone through
pub all_planned : (t : Task) (bounds : List (List ℕ)) (points : ℕ) (plans : PlanTable) → points ≡ length t.points → ArePlanned t bounds points (points * points) plans
    → ArePlans t bounds plans
all_planned t bounds points plans is so = record {
  points = so.points_are ∙ is;
  long = so.long ∙ ap (λ n. n * n) is;
  are = λ a b a_in b_in. one a b (omega (arith, is, a_in)) (omega (arith, is, b_in));
}
  where
    place : (a b : ℕ) → a < points → b < points → place_of points a b < points * points
    place a b a_in b_in = omega (arith, mul-le-mul_right {m = suc a} {n = points} points a_in, b_in)

    none : (n a : ℕ) → n ≡ 0 → n + a ≡ a
    none n a is = omega (arith, is)

    quotient : (a b : ℕ) → b < points → place_of points a b / points ≡ a
    quotient a b b_in = let turned : a * points + b ≡ b + a * points = omega arith in
        ap (λ n. n / points) turned ∙ add-mul-div_right b a {z = points} (omega (arith, b_in)) ∙ none (b / points) a (div-eq_of_lt {n = b} {m = points} b_in)

    rest : (a b : ℕ) → b < points → place_of points a b % points ≡ b
    rest a b b_in = mod-mul-add a points b b_in

    one : (a b : ℕ) → a < points → b < points → IsPlanOf t bounds a b (plan_of plans (record { a = a; b = b }))
    one a b a_in b_in =
        let there = so.done (place_of points a b) (place a b a_in b_in) in
        let first = subst (λ n. IsPlanOf t bounds n (place_of points a b % points) (slice_index_or plans.plans (place_of points a b) None)) (quotient a b b_in) there in
        let both = subst (λ n. IsPlanOf t bounds a n (slice_index_or plans.plans (place_of points a b) None)) (rest a b b_in) first in
        subst (λ n. IsPlanOf t bounds a b (slice_index_or plans.plans (place_of n a b) None)) (sym so.points_are) both

-- there are points where there are pairs
pub some_points : (points k : ℕ) → k < points * points → 0 < points
some_points zero k inside = omega (arith, inside)
some_points (suc n) k inside = omega arith

-- the row of a pair's recovery point keeps what all rows keep
pub all_rows : (rows : List (Vec ℕ Global)) (points k : ℕ) → length rows ≡ points → k < points * points → All AreBounds (rows_of rows) → AreBounds (row_at (rows_of rows) (k % points))
all_rows rows points k beside inside all =
    All-get_or AreBounds (rows_of rows) (k % points) [] (omega (arith, length-map rows (λ (row : Vec ℕ Global). row.items), beside, mod-lt k {m = points} (some_points points k inside))) all

-- a negative checkpoint
pub late_of : (t : Task) (row : List ℕ) (a b pa pb : ℕ) (fault : PlanFault) (short_by : ℕ) → fault ≡ Negative short_by
    → IsAnswer t row a b pa pb (Err fault) → t.deadline_ps < owed_of t.machine pa pb row
late_of t row a b pa pb fault short_by is answer = (subst (λ f. IsAnswer t row a b pa pb (Err f)) is answer).0
