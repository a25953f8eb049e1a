-- A task with its bounds has one table of plans.
use Rattle.std.proofs.Common.{◌≡◌, ◌∙◌, refl, sym, ap, ℕ, zero, suc, ◌*◌, ◌/◌, ◌%◌, ◌<◌, List, length, map, get_or, Option, Some, None, arith}
use Rattle.std.specs.Prelude.{slice_index}
use Rattle.std.proofs.Math.Nat.{div-lt_iff_lt-mul, mod-lt}
use Rattle.std.proofs.lemmas.List.{ext_get_or}
use Rattle.std.proofs.lemmas.Nat.{div-add-mod'}
use Rattle.task_text.specs.declared.task.Task.{Task}
use Rattle.checkpoint_plan.specs.Plan.{IsPlan, watchdog_of}
use Rattle.checkpoint_plan.specs.declared.plan.Plan.{Plan}
use Rattle.frequency_pick.specs.Choice.{PlanTable, place_of, plan_of}
use Rattle.admission.specs.Plans.{ArePlans, IsPlanOf}

abbrev the_plan : ℕ → ℕ → ℕ → ℕ → List ℕ → List ℕ → List ℕ → Plan
the_plan a b period overhead rems checkpoints watchdogs =
    record { a = a; b = b; period_ps = period; overhead_ps = overhead; rem_ps = rems; checkpoint_ps = checkpoints; watchdog = watchdogs }

same_parts : {a a' b b' p p' o o' : ℕ} {r r' c c' w w' : List ℕ} → a ≡ a' → b ≡ b' → p ≡ p' → o ≡ o' → r ≡ r' → c ≡ c' → w ≡ w' → the_plan a b p o r c w ≡ the_plan a' b' p' o' r' c' w'
same_parts a b p o r c w = λ k. the_plan (a k) (b k) (p k) (o k) (r k) (c k) (w k)

one_plan : (t : Task) (row : List ℕ) (a b pa pb : ℕ) (p q : Plan) → IsPlan t row a b pa pb p → IsPlan t row a b pa pb q → p ≡ q
one_plan t row a b pa pb p q x y =
    let checkpoints : p.checkpoint_ps ≡ q.checkpoint_ps = x.checkpoints_are ∙ sym y.checkpoints_are in
    same_parts (x.a_is ∙ sym y.a_is) (x.b_is ∙ sym y.b_is) (x.period_is ∙ sym y.period_is) (x.overhead_is ∙ sym y.overhead_is) (x.rems_are ∙ sym y.rems_are) checkpoints
    (x.watchdogs_are ∙ ap (λ (l : List ℕ). map (watchdog_of pa) l) checkpoints ∙ sym y.watchdogs_are)

same_plan : (t : Task) (bounds : List (List ℕ)) (a b : ℕ) (o r : Option Plan) → IsPlanOf t bounds a b o → IsPlanOf t bounds a b r → o ≡ r
same_plan t bounds a b None None x y = refl
same_plan t bounds a b None (Some q) x y = absurd (let fits = y.owed in omega (arith, x, fits))
same_plan t bounds a b (Some p) None x y = absurd (let fits = x.owed in omega (arith, y, fits))
same_plan t bounds a b (Some p) (Some q) x y = ap (λ (z : Plan). let s : Option Plan = Some z in s) (one_plan t _ a b (slice_index t.points a) (slice_index t.points b) p q x y)

-- the plan at a place is that of the place's pair
plan_at : (plans : PlanTable) (points k : ℕ) → plans.points ≡ points → plan_of plans (record { a = k / points; b = k % points }) ≡ get_or plans.plans k None
plan_at plans points k is = ap (λ n. get_or plans.plans n None) (ap (λ n. place_of n (k / points) (k % points)) is ∙ div-add-mod' k points)

the_table : {n m : ℕ} {l r : List (Option Plan)} → n ≡ m → l ≡ r → (let t : PlanTable = record { points = n; plans = l } in t) ≡ record { points = m; plans = r }
the_table p q = λ k. record { points = p k; plans = q k }

some_points : (points k : ℕ) → k < points * points → 0 < points
some_points zero k inside = omega (arith, inside)
some_points (suc n) k inside = omega arith

pub one_table : (t : Task) (bounds : List (List ℕ)) (plans other : PlanTable) → ArePlans t bounds plans → ArePlans t bounds other → plans ≡ other
one_table t bounds plans other x y =
    the_table (x.points ∙ sym y.points) (ext_get_or None plans.plans other.plans (x.long ∙ sym y.long) (λ k below. each k (omega (arith, below, x.long))))
  where
    each : (k : ℕ) → k < length t.points * length t.points → get_or plans.plans k None ≡ get_or other.plans k None
    each k below =
        let points = length t.points in
        let some = some_points points k below in
        let a_in : k / points < points = (div-lt_iff_lt-mul {k = points} {x = k} {y = points} some).1 below in
        let b_in : k % points < points = mod-lt k {m = points} some in
        sym (plan_at plans points k x.points)
        ∙ same_plan t bounds (k / points) (k % points) (plan_of plans (record { a = k / points; b = k % points })) (plan_of other (record { a = k / points; b = k % points }))
        (x.are (k / points) (k % points) a_in b_in) (y.are (k / points) (k % points) a_in b_in)
        ∙ plan_at other points k y.points
