-- The scopes of sub-tasks, one by one.
use Rattle.std.proofs.Common.{◌≡◌, ◌≢◌, refl, sym, ap, subst, ◌∙◌, ℕ, zero, suc, ◌+◌, ◌<◌, List, [], ◌∷◌, ◌++◌, length, get_or, arith, ◌⊎◌, inl, inr, Option, Some, Err}
use Rattle.std.specs.Prelude.{map, slice_get}
use Rattle.std.specs.List.{Contains}
use Rattle.std.proofs.lemmas.Bool.{cases_eq, cases_order}
use Rattle.std.proofs.lemmas.List.{get_or_append_left, length-append}
use Rattle.std.proofs.lemmas.Option.{get_or_from_slice_get, slice_get-get_or, slice_get_within}
use Rattle.std.proofs.Math.Seq.{get_or-append_seam}
use Rattle.visa_io.specs.declared.records.Region.{Region}
use Rattle.flow_graph.specs.Flow.{Flow}
use Rattle.loop_regions.specs.Ways.{addresses_of}
use Rattle.subtask_cut.specs.Asked.{AreReached, AreScopes}
use Rattle.subtask_cut.specs.Cuts.{AreSubTasks, Has, IsAnswer, IsFirst, IsScope, SubTasks}
use Rattle.subtask_cut.specs.Ways.{IsReached, is_onward}
use Rattle.subtask_cut.specs.declared.fault.CutFault.{CutFault}
use Rattle.subtask_cut.specs.declared.fault.CutFault.TheVariants.{Slot, InCallee, InRegion, Order, Bypassed, Memory}

-- the scopes of the first sub-tasks
pub record AreSoFar (g : Flow) (firsts : List ℕ) (n : ℕ) (scopes : List (List ℕ)) : Type 0 where
  pub beside : length scopes ≡ n
  pub are : (k : ℕ) (us : List ℕ) → slice_get scopes k ≡ Some us → IsScope g firsts k us

pub no_scopes : (g : Flow) (firsts : List ℕ) → AreSoFar g firsts 0 []
no_scopes g firsts = record {
  beside = refl;
  are = λ k us is.
      absurd (let l = slice_get_within [] k us is in omega (arith, l));
}

scope_is : (g : Flow) (firsts : List ℕ) (k first : ℕ) (us : List ℕ) → slice_get firsts k ≡ Some first
    → AreReached g.edges (slice_get firsts (suc k)) first us → IsScope g firsts k us
scope_is g firsts k first us at r = record {
  are = λ u. (λ h. (first, at, (r.are u).0 h), λ i. (r.are u).1 (same_first i.0 i.1 u i.2));
  rise = r.rise;
}
  where
    same_first : (other : ℕ) → slice_get firsts k ≡ Some other → (u : ℕ)
        → IsReached g.edges is_onward (slice_get firsts (suc k)) other u
        → IsReached g.edges is_onward (slice_get firsts (suc k)) first u
    same_first other there u reached =
        let e : Some other ≡ Some first = sym there ∙ at in
        let same : other ≡ first = cc in
        subst (λ f. IsReached g.edges is_onward (slice_get firsts (suc k)) f u) same reached

pub one_more_scope : (g : Flow) (firsts : List ℕ) (n : ℕ) (next : Option ℕ) (us : List ℕ) (scopes more : List (List ℕ))
    → n < length firsts → next ≡ slice_get firsts (n + 1) → AreReached g.edges next (get_or firsts n 0) us
    → more ≡ scopes ++ us ∷ [] → AreSoFar g firsts n scopes → AreSoFar g firsts (n + 1) more
one_more_scope g firsts n next us scopes more inside next_is reached pushed s = rw pushed (record {
  beside = (let l = length-append scopes (us ∷ []) in let b = s.beside in omega (arith, l, b));
  are = λ k vs is. elim (cases_order k n) [
    | inl same ↦ subst (λ i. IsScope g firsts i vs) (sym same) (last k vs is same)
    | inr (inl less) ↦ s.are k vs (before k vs is less)
    | inr (inr past) ↦ absurd (let l = slice_get_within (scopes ++ us ∷ []) k vs is in let m =
        length-append scopes (us ∷ []) in let b = s.beside in omega (arith, l, m, b, past))
  ];
})
  where
    last : (k : ℕ) (vs : List ℕ) → slice_get (scopes ++ us ∷ []) k ≡ Some vs → k ≡ n → IsScope g firsts n vs
    last k vs is same =
        let at : k ≡ length scopes = (let b = s.beside in omega (arith, b, same)) in
        let it : us ≡ vs = sym (ap (λ i. get_or (scopes ++ us ∷ []) i []) at ∙ get_or-append_seam scopes us [] [])
        ∙ get_or_from_slice_get (scopes ++ us ∷ []) k vs [] is in
        let next_at : next ≡ slice_get firsts (suc n) = next_is
        ∙ ap (slice_get firsts) (let e : n + 1 ≡ suc n = omega arith in e) in
        subst (IsScope g firsts n) it
        (scope_is g firsts n (get_or firsts n 0) us (slice_get-get_or firsts n 0 inside)
        (subst (λ o. AreReached g.edges o (get_or firsts n 0) us) next_at reached))

    before : (k : ℕ) (vs : List ℕ) → slice_get (scopes ++ us ∷ []) k ≡ Some vs → k < n → slice_get scopes k ≡ Some vs
    before k vs is less =
        let low : k < length scopes = (let b = s.beside in omega (arith, b, less)) in
        let it : get_or scopes k [] ≡ vs = sym (get_or_append_left scopes (us ∷ []) [] k low)
        ∙ get_or_from_slice_get (scopes ++ us ∷ []) k vs [] is in
        slice_get-get_or scopes k [] low ∙ ap (λ (l : List ℕ). let o : Option (List ℕ) = Some l in o) it

pub scopes_all : (g : Flow) (firsts : List ℕ) (n : ℕ) (scopes : List (List ℕ)) → n ≡ length firsts
    → AreSoFar g firsts n scopes
    → AreScopes g firsts scopes
scopes_all g firsts n scopes is s = record { beside = s.beside ∙ is; are = s.are }

-- the answer

pub fault_answer : (g : Flow) (rs : List Region) (cuts : List ℕ) (fault : CutFault) → IsFirst g rs cuts fault
    → IsAnswer g rs cuts (Err fault)
fault_answer g rs cuts (Slot i) f = f
fault_answer g rs cuts (InCallee i) f = f
fault_answer g rs cuts (InRegion i) f = f
fault_answer g rs cuts (Order i) f = f
fault_answer g rs cuts (Bypassed i) f = f
fault_answer g rs cuts Memory f = tt

pub tasks_answer : (g : Flow) (rs : List Region) (cuts : List ℕ) (s : SubTasks)
    → ((fault : CutFault) → Has g rs cuts fault → ⊥)
    → s.firsts ≡ g.entry ∷ cuts → AreScopes g s.firsts s.scopes → AreSubTasks g rs cuts s
tasks_answer g rs cuts s sound are scopes = record {
  sound = sound;
  firsts_are = are;
  beside =
      scopes.beside;
  scopes_are = scopes.are;
}

pushed_map : {X Y : Type 0} (f : X → Y) (xs : List X) (x : X) → map f (xs ++ x ∷ []) ≡ map f xs ++ f x ∷ []
pushed_map f [] x = refl
pushed_map f (y ∷ xs) x = ap (λ l. f y ∷ l) (pushed_map f xs x)

pub map_push : {X Y : Type 0} (f : X → Y) (xs more : List X) (x : X) → more ≡ xs ++ x ∷ []
    → map f more ≡ map f xs ++ f x ∷ []
map_push f xs more x is = ap (map f) is ∙ pushed_map f xs x

-- every cut without a fault is a unit

among_or : (xs : List ℕ) (a : ℕ) → Contains xs a ⊎ (Contains xs a → ⊥)
among_or [] a = inr (λ h. let i = h.1 in omega (arith, i))
among_or (x ∷ xs) a = elim (cases_eq x a) [
  | inl same ↦ inl (0, omega arith, same)
  | inr other ↦ elim (among_or xs a) [
    | inl h ↦ inl (suc h.0, (let i = h.1 in omega (arith, i)), h.2)
    | inr none ↦ inr (λ h. none (later h other))
  ]
]
  where
    later : Contains (x ∷ xs) a → x ≢ a → Contains xs a
    later (zero, below, is) other = absurd (other is)
    later (suc k, below, is) other = (k, omega (arith, below), is)

pub cuts_are_units : (g : Flow) (rs : List Region) (cuts : List ℕ) → ((fault : CutFault) → Has g rs cuts fault → ⊥)
    → (a : ℕ)
    → Contains cuts a → Contains (addresses_of g.units) a
cuts_are_units g rs cuts sound a among = elim (among_or (addresses_of g.units) a) [
  | inl h ↦ h
  | inr none ↦ absurd (sound (Slot (among.0 + 2)) (
    a,
    record {
      place = among.0;
      at = slice_get-get_or cuts among.0 a among.1 ∙ ap (λ (n : ℕ). let o : Option ℕ = Some n in o) among.2;
      number = refl;
    },
    none,
  ))
]
