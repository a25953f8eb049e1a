-- What cuts without a fault keep, and the scopes of their sub-tasks.
use Rattle.std.proofs.Common.{◌≡◌, ◌≢◌, refl, sym, ap, subst, ◌∙◌, ℕ, zero, suc, ◌+◌, ◌<◌, ◌≤◌, true, List, [], ◌∷◌, length, get_or, arith, inl, inr, Option, Some}
use Rattle.std.specs.Prelude.{slice_get}
use Rattle.std.specs.List.{Contains}
use Rattle.std.proofs.lemmas.Bool.{cases_eq, cases_lt, cases_order}
use Rattle.std.proofs.lemmas.List.{get_or_past}
use Rattle.std.proofs.lemmas.Option.{get_or_from_slice_get, slice_get-get_or, slice_get_within}
use Rattle.visa_io.specs.declared.records.Code.{Code}
use Rattle.visa_io.specs.declared.records.Region.{Region}
use Rattle.flow_graph.specs.Flow.{Flow, IsGraph}
use Rattle.flow_graph.specs.declared.parts.Edge.{Edge}
use Rattle.loop_regions.specs.Walks.{IsFirst}
use Rattle.loop_regions.proofs.Graphs.{entry_there}
use Rattle.subtask_cut.specs.Asked.{HasFunctions}
use Rattle.subtask_cut.specs.Cuts.{AreSubTasks, IsCut, IsScope, SubTasks}
use Rattle.subtask_cut.specs.Ordered.{ArePassed}
use Rattle.subtask_cut.specs.Ways.{is_onward, units_of}
use Rattle.subtask_cut.specs.declared.fault.CutFault.TheVariants.{InCallee, Order}

pub functions_of : (code : Code) (entry : ℕ) (g : Flow) → IsGraph code entry g → HasFunctions g
functions_of code entry g is = record {
  entry = entry_there code entry g is;
  beside = is.function_units_beside;
  rise = λ k us at. (is.function_units_are k us at).rise;
}

-- the first unit of each sub-task but the first is a cut
pub cut_of : (g : Flow) (rs : List Region) (cuts : List ℕ) (s : SubTasks) → AreSubTasks g rs cuts s → (k u : ℕ)
    → IsFirst s.firsts (suc k) u
    → IsCut cuts (k + 2) u
cut_of g rs cuts s are k u f = by_list (subst (λ l. IsFirst l (suc k) u) are.firsts_are f)
  where
    by_list : IsFirst (g.entry ∷ cuts) (suc k) u → IsCut cuts (k + 2) u
    by_list f = record {
      place = k;
      at = slice_get-get_or cuts k 0 (let i = f.0 in omega (arith, i))
          ∙ ap (λ (n : ℕ). let o : Option ℕ = Some n in o) f.1;
      number = refl;
    }

entry_first : (g : Flow) (rs : List Region) (cuts : List ℕ) (s : SubTasks) → AreSubTasks g rs cuts s → (u : ℕ)
    → IsFirst s.firsts 0 u
    → u ≡ g.entry
entry_first g rs cuts s are u f = sym f.1 ∙ ap (λ (l : List ℕ). get_or l 0 0) are.firsts_are

no_entry : (g : Flow) (rs : List Region) (cuts : List ℕ) (s : SubTasks) → AreSubTasks g rs cuts s → (k u : ℕ)
    → IsFirst s.firsts (suc k) u
    → u ≡ g.entry → ⊥
no_entry g rs cuts s are k u f is = are.sound (Order (k + 2)) (u, cut_of g rs cuts s are k u f, inl is)

earlier : (g : Flow) (rs : List Region) (cuts : List ℕ) (s : SubTasks) → AreSubTasks g rs cuts s → (j k u : ℕ)
    → IsFirst s.firsts (suc j) u
    → IsFirst s.firsts (suc k) u → j < k → ⊥
earlier g rs cuts s are j k u f h less =
    are.sound (Order (k + 2)) (
      u,
      cut_of g rs cuts s are k u h,
      inr
          (inl (j + 2, omega (arith, less), cut_of g rs cuts s are j u f)),
    )

different : (g : Flow) (rs : List Region) (cuts : List ℕ) (s : SubTasks) → AreSubTasks g rs cuts s → (j k u : ℕ)
    → IsFirst s.firsts j u
    → IsFirst s.firsts k u → j ≡ k
different g rs cuts s are zero zero u f h = refl
different g rs cuts s are zero (suc k) u f h = absurd (no_entry g rs cuts s are k u h (entry_first g rs cuts s are u f))
different g rs cuts s are (suc j) zero u f h = absurd (no_entry g rs cuts s are j u f (entry_first g rs cuts s are u h))
different g rs cuts s are (suc j) (suc k) u f h = elim (cases_order j k) [
  | inl is ↦ ap suc is
  | inr (inl less) ↦ absurd (earlier g rs cuts s are j k u f h less)
  | inr (inr more) ↦ absurd (earlier g rs cuts s are k j u h f more)
]

pub passed : (g : Flow) (rs : List Region) (cuts : List ℕ) (s : SubTasks) → AreSubTasks g rs cuts s
    → ArePassed g.edges (units_of g) s.firsts g.entry
passed g rs cuts s are = record {
  begins = subst (λ l. IsFirst l 0 g.entry) (sym are.firsts_are) (omega arith, refl);
  different = different g rs cuts s are;
  own = λ k u first f among. elim (cases_eq f g.entry) [
    | inl is ↦ is
    | inr other ↦ absurd (are.sound (InCallee (k + 2)) (u, cut_of g rs cuts s are k u first, inr (f, other, among)))
  ];
  order = λ j u v first before reached.
      are.sound (Order (suc j + 2)) (
        u,
        cut_of g rs cuts s are (suc j) u first,
        inr (inr (
          j + 2,
          v,
          omega arith,
          cut_of g rs cuts s are j v before,
          reached,
        )),
      );
}

-- scopes

scope_at : (g : Flow) (rs : List Region) (cuts : List ℕ) (s : SubTasks) → AreSubTasks g rs cuts s → (k : ℕ)
    → k < length s.scopes
    → IsScope g s.firsts k (get_or s.scopes k [])
scope_at g rs cuts s are k inside = are.scopes_are k (get_or s.scopes k []) (slice_get-get_or s.scopes k [] inside)

no_next : (firsts : List ℕ) (k u : ℕ) → (IsFirst firsts k u → ⊥) → slice_get firsts k ≢ Some u
no_next firsts k u none is = none (slice_get_within firsts k u is, get_or_from_slice_get firsts k u 0 is)

pub scope_begins : (g : Flow) (rs : List Region) (cuts : List ℕ) (s : SubTasks) → AreSubTasks g rs cuts s → (k : ℕ)
    → k < length s.firsts → Contains (get_or s.scopes k []) (get_or s.firsts k 0)
scope_begins g rs cuts s are k inside =
    ((scope_at g rs cuts s are k (let b = are.beside in omega (arith, b, inside))).are (get_or s.firsts k 0)).1 (
      get_or s.firsts k 0,
      slice_get-get_or s.firsts k 0 inside,
      record { us = []; way = (refl, no_next s.firsts (suc k) (get_or s.firsts k 0) apart) },
    )
  where
    apart : IsFirst s.firsts (suc k) (get_or s.firsts k 0) → ⊥
    apart next = let e = different g rs cuts s are k (suc k) (get_or s.firsts k 0) (inside, refl) next in
        omega (arith, e)

pub scope_goes : (g : Flow) (rs : List Region) (cuts : List ℕ) (s : SubTasks) → AreSubTasks g rs cuts s
    → (k : ℕ) (e : Edge)
    → Contains g.edges e → is_onward e.kind ≡ true → Contains (get_or s.scopes k []) e.from
    → (IsFirst s.firsts (suc k) e.to → ⊥)
    → Contains (get_or s.scopes k []) e.to
scope_goes g rs cuts s are k e among onward from last = elim (cases_lt k (length s.scopes)) [
  | inl inside ↦
      let scope = scope_at g rs cuts s are k inside in
      let there = (scope.are e.from).0 from in
      (scope.are e.to).1 (
        there.0,
        there.1,
        record {
          us = e.from ∷ there.2.us;
          way = (
            record { edge = e; among = among; is_asked = onward; from_is = refl; to_is = refl },
            no_next s.firsts
                (suc k) e.to last,
            there.2.way,
          );
        },
      )
  | inr past ↦ absurd (none_past past)
]
  where
    none_past : length s.scopes ≤ k → ⊥
    none_past past =
        let empty : get_or s.scopes k [] ≡ [] = get_or_past s.scopes k [] past in
        let bad : Contains [] e.from = subst (λ (l : List ℕ). Contains l e.from) empty from in
        let i = bad.1 in omega (arith, i)
