-- The costs of sub-tasks, and rows of their bounds, one by one.
use Rattle.std.proofs.Common.{◌≡◌, ◌∙◌, refl, sym, ap, subst, ℕ, suc, ◌+◌, ◌-◌, ◌<◌, ◌≤◌, List, [], ◌∷◌, ◌++◌, length, Vec, Option, min, ◌*◌, slice_get, slice_index, slice_index_or, slice_set, arith, inl, inr}
use Rattle.std.specs.declared.alloc.Global.{Global}
use Rattle.std.proofs.lemmas.Bool.{cases_eq}
use Rattle.std.proofs.lemmas.List.{get_or-set_other, get_or-set_same, length-set, map-append}
use Rattle.flow_graph.specs.Flow.{Flow}
use Rattle.loop_regions.specs.Nested.{Numbered}
use Rattle.subtask_cut.specs.Cuts.{SubTasks}
use Rattle.task_text.specs.declared.task.Task.{Task}
use Rattle.path_wcet.specs.declared.costs.Costs.{Costs}
use Rattle.path_wcet.specs.declared.costs.Pen.{Pen}
use Rattle.admission.specs.Bounding.{AreChanging, AreCosts, AreRows, IsCostOf, IsRow}
use Rattle.persistence.specs.Charges.{Charge, IsCharge}
use Rattle.path_wcet.specs.Longest.{IsLongest}
use Rattle.path_wcet.specs.Paid.{cap}
use Rattle.admission.specs.Found.{AreBounds, IsBound, costs_with, pen_of, scope_of}
use Rattle.admission.specs.Rows.{rows_of}
use Rattle.admission.proofs.Growing.{one_longer, one_more}

pub no_costs : (t : Task) (g : Flow) (s : SubTasks) (pen : Pen) → AreCosts t g s pen 0 []
no_costs t g s pen = record { long = refl; are = λ k below d. absurd (none k below) }
  where
    none : (k : ℕ) → k < 0 → ⊥
    none k below = omega (arith, below)

pub more_costs : (t : Task) (g : Flow) (s : SubTasks) (pen : Pen) (k : ℕ) (costs new : List Costs) (c : Costs) → AreCosts t g s pen k costs
    → IsCostOf t g s pen k c → new ≡ costs ++ c ∷ [] → AreCosts t g s pen (k + 1) new
more_costs t g s pen k costs new c so one is =
    record { long = one_longer costs new c k so.long is; are = one_more (IsCostOf t g s pen) costs new c k so.long so.are one is }

pub no_row : (t : Task) (g : Flow) (n : Numbered) (s : SubTasks) (period : ℕ) → IsRow t g n s period 0 []
no_row t g n s period = record { long = refl; are = λ k below d. absurd (none k below) }
  where
    none : (k : ℕ) → k < 0 → ⊥
    none k below = omega (arith, below)

pub more_row : (t : Task) (g : Flow) (n : Numbered) (s : SubTasks) (period k : ℕ) (row new : List ℕ) (b : ℕ) → IsRow t g n s period k row
    → IsBound t g n s period k b → new ≡ row ++ b ∷ [] → IsRow t g n s period (k + 1) new
more_row t g n s period k row new b so one is =
    record { long = one_longer row new b k so.long is; are = one_more (IsBound t g n s period) row new b k so.long so.are one is }

pub no_rows : (t : Task) (g : Flow) (n : Numbered) (s : SubTasks) → AreRows t g n s 0 []
no_rows t g n s = record { long = refl; are = λ p below d. absurd (none p below) }
  where
    none : (k : ℕ) → k < 0 → ⊥
    none k below = omega (arith, below)

pub more_rows : (t : Task) (g : Flow) (n : Numbered) (s : SubTasks) (p : ℕ) (rows new : List (Vec ℕ Global)) (row : Vec ℕ Global)
    → AreRows t g n s p (rows_of rows) → IsRow t g n s (slice_index t.points p) (length s.firsts) row.items → new ≡ rows ++ row ∷ [] → AreRows t g n s (p + 1) (rows_of new)
more_rows t g n s p rows new row so one is =
    record {
      long = one_longer (rows_of rows) (rows_of new) row.items p so.long made;
      are = one_more (λ q. IsRow t g n s (slice_index t.points q) (length s.firsts)) (rows_of rows) (rows_of new) row.items p so.long so.are one made;
    }
  where
    made : rows_of new ≡ rows_of rows ++ row.items ∷ []
    made = ap rows_of is ∙ map-append (λ (r : Vec ℕ Global). r.items) rows (row ∷ [])

pub all_rows : (t : Task) (g : Flow) (n : Numbered) (s : SubTasks) (rows : List (List ℕ)) → AreRows t g n s (length t.points) rows → AreBounds t g n s rows
all_rows t g n s rows so = record {
  points = so.long;
  subs = λ p below. (so.are p below []).long;
  are = λ p k below inside. (so.are p below []).are k inside 0;
}

-- the costs at another point, sub-task by sub-task
pub none_changed : (t : Task) (g : Flow) (s : SubTasks) (old pen : Pen) (subs : ℕ) (costs : List Costs) → AreCosts t g s old subs costs
    → AreChanging t g s old pen subs 0 costs
none_changed t g s old pen subs costs so = record { long = so.long; changed = λ j below inside d. absurd (none j below); rest = λ j above inside d. so.are j inside d }
  where
    none : (k : ℕ) → k < 0 → ⊥
    none k below = omega (arith, below)

pub one_changed : (t : Task) (g : Flow) (s : SubTasks) (old pen : Pen) (subs k : ℕ) (costs new : List Costs) (c d : Costs) → AreChanging t g s old pen subs k costs
    → k < length costs → c.charge ≡ (slice_index_or costs k d).charge → c.pen ≡ pen → new ≡ slice_set costs k c → AreChanging t g s old pen subs (k + 1) new
one_changed t g s old pen subs k costs new c d so inside charge pen_is is = record {
  long = ap length is ∙ length-set costs k c ∙ so.long;
  changed = λ j below within e. elim (cases_eq j k) [
    | inl same ↦ subst (IsCostOf t g s pen j) (sym (there j e same)) (subst (λ i. IsCostOf t g s pen i c) (sym same) here)
    | inr other ↦ subst (IsCostOf t g s pen j) (sym (beside j e other)) (so.changed j (omega (arith, below, other)) within e)
  ];
  rest = λ j above within e. subst (IsCostOf t g s old j) (sym (beside j e (not_here j above))) (so.rest j (omega (arith, above)) within e);
}
  where
    there : (j : ℕ) (e : Costs) → j ≡ k → slice_index_or new j e ≡ c
    there j e same = ap (λ (l : List Costs). slice_index_or l j e) is ∙ ap (λ i. slice_index_or (slice_set costs k c) i e) same ∙ get_or-set_same costs k c e inside

    beside : (j : ℕ) (e : Costs) → (j ≡ k → ⊥) → slice_index_or new j e ≡ slice_index_or costs j e
    beside j e other = ap (λ (l : List Costs). slice_index_or l j e) is ∙ get_or-set_other costs k j c e other

    not_here : (j : ℕ) → k + 1 ≤ j → j ≡ k → ⊥
    not_here j above same = omega (arith, above, same)

    here : IsCostOf t g s pen k c
    here = record { charge = subst (λ ch. IsCharge g (scope_of s k) t.machine.icache ch) (sym charge) (so.rest k (omega arith) (omega (arith, inside, so.long)) d).charge; pen_is = pen_is }

pub all_changed : (t : Task) (g : Flow) (s : SubTasks) (old pen : Pen) (subs k : ℕ) (costs : List Costs) → AreChanging t g s old pen subs k costs → subs ≤ k
    → AreCosts t g s pen subs costs
all_changed t g s old pen subs k costs so all = record { long = so.long; are = λ j inside d. so.changed j (omega (arith, all, inside)) inside d }

-- the bound of a sub-task, from the costliest walk
pub bound_made : (t : Task) (g : Flow) (n : Numbered) (s : SubTasks) (period k bound most : ℕ) (costs : Costs) (from : ℕ) (to : Option ℕ) (lines : ℕ)
    → IsCostOf t g s (pen_of t.machine period) k costs → from ≡ slice_index s.firsts k → to ≡ slice_get s.firsts (suc k)
    → IsLongest g n costs from to most → lines ≡ costs.charge.persistent → bound ≡ min cap (most + costs.pen.m * lines) → IsBound t g n s period k bound
bound_made t g n s period k bound most costs from to lines cost from_is to_is longest lines_are is = record {
  charge = costs.charge;
  is_charge = cost.charge;
  most = most;
  longest = subst (λ c. IsLongest g n c (slice_index s.firsts k) (slice_get s.firsts (suc k)) most) (ap (costs_with costs.charge) cost.pen_is)
      (subst (λ o. IsLongest g n costs (slice_index s.firsts k) o most) to_is (subst (λ a. IsLongest g n costs a to most) from_is longest));
  bound_is = is ∙ ap (λ l. min cap (most + costs.pen.m * l)) lines_are ∙ ap (λ (p : Pen). min cap (most + p.m * costs.charge.persistent)) cost.pen_is;
}

-- what is charged in a scope, with what costs at a point
pub cost_made : (t : Task) (g : Flow) (s : SubTasks) (pen : Pen) (k : ℕ) (scope : List ℕ) (charge : Charge) (costs : Costs)
    → scope ≡ slice_index_or s.scopes (k + 1 - 1) [] → IsCharge g scope t.machine.icache charge → costs ≡ costs_with charge pen → IsCostOf t g s pen k costs
cost_made t g s pen k scope charge costs scope_is is made = subst (IsCostOf t g s pen k) (sym made) (record {
  charge = subst (λ (us : List ℕ). IsCharge g us t.machine.icache charge) (scope_is ∙ ap (λ i. slice_index_or s.scopes i []) (back k)) is;
  pen_is = refl;
})
  where
    back : (k : ℕ) → k + 1 - 1 ≡ k
    back k = omega arith
