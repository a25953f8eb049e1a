-- The faults of one cut in the order in which they are told, and the first of all.
use Rattle.std.proofs.Common.{◌≡◌, ◌≢◌, refl, sym, ap, subst, ◌∙◌, ℕ, ◌+◌, ◌-◌, ◌<◌, ◌≤◌, Bool, true, false, List, length, get_or, take, arith, inl, inr, Option, Some, None, Result, Ok, Err}
use Rattle.std.specs.Prelude.{IfOk}
use Rattle.std.specs.List.{Contains}
use Rattle.std.proofs.lemmas.Bool.{cases_order}
use Rattle.std.proofs.lemmas.List.{get_or-take, length-take}
use Rattle.std.proofs.lemmas.Option.{slice_get-get_or, slice_get_within, get_or_from_slice_get}
use Rattle.visa_io.specs.declared.records.Region.{Region}
use Rattle.flow_graph.specs.Flow.{Flow}
use Rattle.loop_regions.specs.Ways.{addresses_of}
use Rattle.subtask_cut.specs.Asked.{IsFaultOf, IsFaultOfAll}
use Rattle.subtask_cut.specs.Cuts.{Has, IsBypassed, IsCut, IsFirst, IsInCallee, IsInRegion, IsNoUnit, IsOutOfOrder, IsReachedWithout, number_of, rank}
use Rattle.subtask_cut.specs.Search.{SaysWhether}
use Rattle.subtask_cut.specs.declared.fault.CutFault.{CutFault}
use Rattle.subtask_cut.specs.declared.fault.CutFault.TheVariants.{Slot, InCallee, InRegion, Order, Bypassed, Memory}

pub ok_more : {T E : Type 0} (P Q : T → Type 0) → ((x : T) → P x → Q x) → (r : Result T E) → IfOk r P → IfOk r Q
ok_more P Q more (Ok x) h = more x h
ok_more P Q more (Err e) h = tt

-- cuts by their numbers

cut_at : (cuts : List ℕ) (k : ℕ) → k < length cuts → IsCut cuts (k + 2) (get_or cuts k 0)
cut_at cuts k inside = record { place = k; at = slice_get-get_or cuts k 0 inside; number = refl }

cut_before : (cuts : List ℕ) (k : ℕ) → k < length cuts → k ≢ 0 → IsCut cuts (k + 1) (get_or cuts (k - 1) 0)
cut_before cuts k inside some = record {
  place = k - 1;
  at = slice_get-get_or cuts (k - 1) 0 (omega arith);
  number =
      omega arith;
}

at_place : (cuts : List ℕ) (j c k : ℕ) → IsCut cuts j c → j ≡ k + 2 → c ≡ get_or cuts k 0
at_place cuts j c k cut is =
    let same : cut.place ≡ k = (let n = cut.number in omega (arith, n, is)) in
    sym (get_or_from_slice_get cuts cut.place c 0 cut.at) ∙ ap (λ i. get_or cuts i 0) same

again : (cuts : List ℕ) (k c : ℕ) → k < length cuts → Contains (take k cuts) c → (j : ℕ) × (j < k + 2) × IsCut cuts j c
again cuts k c inside among =
    let l = length-take k cuts in
    let low : among.0 < k = (let i = among.1 in omega (arith, i, l)) in
    let there = sym (get_or-take k cuts among.0 c low) ∙ among.2 in (
      among.0 + 2,
      omega (arith, low),
      record {
        place = among.0;
        at = slice_get-get_or cuts among.0 c (omega (arith, low, inside))
            ∙ ap (λ (n : ℕ). let o : Option ℕ = Some n in o) there;
        number = refl;
      },
    )

is_again : (cuts : List ℕ) (k j c : ℕ) → k < length cuts → j < k + 2 → IsCut cuts j c → Contains (take k cuts) c
is_again cuts k j c inside less cut =
    let low : cut.place < k = (let n = cut.number in omega (arith, n, less)) in
    let l = length-take k cuts in (
      cut.place,
      omega (arith, low, l, inside),
      get_or-take k cuts cut.place c low
          ∙ get_or_from_slice_get cuts cut.place c c cut.at,
    )

pub order_entry : (g : Flow) (cuts : List ℕ) (i c : ℕ) → c ≡ g.entry → IsOutOfOrder g cuts i c
order_entry g cuts i c is = inl is

pub order_again : (g : Flow) (cuts : List ℕ) (k c : ℕ) → k < length cuts → Contains (take k cuts) c
    → IsOutOfOrder g cuts (k + 2) c
order_again g cuts k c inside among = inr (inl (again cuts k c inside among))

pub order_first : (g : Flow) (cuts : List ℕ) (k c : ℕ) → k < length cuts → k ≡ 0 → c ≢ g.entry
    → (Contains (take k cuts) c → ⊥) → IsOutOfOrder g cuts (k + 2) c → ⊥
order_first g cuts k c inside first other new (inl is) = other is
order_first g cuts k c inside first other new (inr (inl (j, less, cut))) = new (is_again cuts k j c inside less cut)
order_first g cuts k c inside first other new (inr (inr (j, b, is, cut, reached))) = let n = cut.number in
    omega (arith, is, n, first)

pub says_order : (g : Flow) (cuts : List ℕ) (k c : ℕ) (says : Bool) → k < length cuts → k ≢ 0 → c ≢ g.entry
    → (Contains (take k cuts) c → ⊥) → SaysWhether says (IsReachedWithout g (get_or cuts (k - 1) 0) c)
    → SaysWhether says (IsOutOfOrder g cuts (k + 2) c)
says_order g cuts k c true inside some other new reached =
    inr (inr (k + 1, get_or cuts (k - 1) 0, omega arith, cut_before cuts k inside some, reached))
says_order g cuts k c false inside some other new none = in_order
  where
    in_order : IsOutOfOrder g cuts (k + 2) c → ⊥
    in_order (inl is) = other is
    in_order (inr (inl (j, less, cut))) = new (is_again cuts k j c inside less cut)
    in_order (inr (inr (j, b, is, cut, reached))) =
        let low : cut.place ≡ k - 1 = (let n = cut.number in omega (arith, is, n)) in
        let same : get_or cuts (k - 1) 0 ≡ b = ap (λ p. get_or cuts p 0) (sym low)
        ∙ get_or_from_slice_get cuts cut.place b 0 cut.at in
        none (subst (λ o. IsReachedWithout g o c) (sym same) reached)

-- the cut's faults have at least this rank
abbrev AreFrom : Flow → List Region → List ℕ → ℕ → ℕ → Type 0
AreFrom g rs cuts i m = (other : CutFault) → Has g rs cuts other → number_of other ≡ i → m ≤ rank other

from_slot : (g : Flow) (rs : List Region) (cuts : List ℕ) (i : ℕ) → AreFrom g rs cuts i 1
from_slot g rs cuts i (Slot j) h is = omega arith
from_slot g rs cuts i (InCallee j) h is = omega arith
from_slot g rs cuts i (InRegion j) h is = omega arith
from_slot g rs cuts i (Order j) h is = omega arith
from_slot g rs cuts i (Bypassed j) h is = omega arith
from_slot g rs cuts i Memory h is = absurd h

from_callee : (g : Flow) (rs : List Region) (cuts : List ℕ) (k : ℕ) → AreFrom g rs cuts (k + 2) 1
    → (IsNoUnit g (get_or cuts k 0) → ⊥)
    → AreFrom g rs cuts (k + 2) 2
from_callee g rs cuts k more none (Slot j) (c, cut, bad) is =
    absurd (none (subst (IsNoUnit g) (at_place cuts j c k cut is) bad))
from_callee g rs cuts k more none (InCallee j) h is = omega arith
from_callee g rs cuts k more none (InRegion j) h is = omega arith
from_callee g rs cuts k more none (Order j) h is = omega arith
from_callee g rs cuts k more none (Bypassed j) h is = omega arith
from_callee g rs cuts k more none Memory h is = absurd h

from_region : (g : Flow) (rs : List Region) (cuts : List ℕ) (k : ℕ) → AreFrom g rs cuts (k + 2) 2
    → (IsInCallee g (get_or cuts k 0) → ⊥)
    → AreFrom g rs cuts (k + 2) 3
from_region g rs cuts k more none (Slot j) h is = absurd (let l = more (Slot j) h is in omega (arith, l))
from_region g rs cuts k more none (InCallee j) (c, cut, bad) is =
    absurd (none (subst (IsInCallee g) (at_place cuts j c k cut is) bad))
from_region g rs cuts k more none (InRegion j) h is = omega arith
from_region g rs cuts k more none (Order j) h is = omega arith
from_region g rs cuts k more none (Bypassed j) h is = omega arith
from_region g rs cuts k more none Memory h is = absurd h

from_order : (g : Flow) (rs : List Region) (cuts : List ℕ) (k : ℕ) → AreFrom g rs cuts (k + 2) 3
    → (IsInRegion rs (get_or cuts k 0) → ⊥)
    → AreFrom g rs cuts (k + 2) 4
from_order g rs cuts k more none (Slot j) h is = absurd (let l = more (Slot j) h is in omega (arith, l))
from_order g rs cuts k more none (InCallee j) h is = absurd (let l = more (InCallee j) h is in omega (arith, l))
from_order g rs cuts k more none (InRegion j) (c, cut, bad) is =
    absurd (none (subst (IsInRegion rs) (at_place cuts j c k cut is) bad))
from_order g rs cuts k more none (Order j) h is = omega arith
from_order g rs cuts k more none (Bypassed j) h is = omega arith
from_order g rs cuts k more none Memory h is = absurd h

from_bypassed : (g : Flow) (rs : List Region) (cuts : List ℕ) (k : ℕ) → AreFrom g rs cuts (k + 2) 4
    → (IsOutOfOrder g cuts (k + 2) (get_or cuts k 0) → ⊥)
    → AreFrom g rs cuts (k + 2) 5
from_bypassed g rs cuts k more none (Slot j) h is = absurd (let l = more (Slot j) h is in omega (arith, l))
from_bypassed g rs cuts k more none (InCallee j) h is = absurd (let l = more (InCallee j) h is in omega (arith, l))
from_bypassed g rs cuts k more none (InRegion j) h is = absurd (let l = more (InRegion j) h is in omega (arith, l))
from_bypassed g rs cuts k more none (Order j) (c, cut, bad) is =
    absurd (none (subst (IsOutOfOrder g cuts (k + 2)) (at_place cuts j c k cut is)
    (subst (λ i. IsOutOfOrder g cuts i c) is bad)))
from_bypassed g rs cuts k more none (Bypassed j) h is = omega arith
from_bypassed g rs cuts k more none Memory h is = absurd h

from_none : (g : Flow) (rs : List Region) (cuts : List ℕ) (k : ℕ) → AreFrom g rs cuts (k + 2) 5
    → (IsBypassed g (get_or cuts k 0) → ⊥)
    → AreFrom g rs cuts (k + 2) 6
from_none g rs cuts k more none (Slot j) h is = absurd (let l = more (Slot j) h is in omega (arith, l))
from_none g rs cuts k more none (InCallee j) h is = absurd (let l = more (InCallee j) h is in omega (arith, l))
from_none g rs cuts k more none (InRegion j) h is = absurd (let l = more (InRegion j) h is in omega (arith, l))
from_none g rs cuts k more none (Order j) h is = absurd (let l = more (Order j) h is in omega (arith, l))
from_none g rs cuts k more none (Bypassed j) (c, cut, bad) is =
    absurd (none (subst (IsBypassed g) (at_place cuts j c k cut is) bad))
from_none g rs cuts k more none Memory h is = absurd h

no_fault : (g : Flow) (rs : List Region) (cuts : List ℕ) (i : ℕ) → AreFrom g rs cuts i 6 → IsFaultOf g rs cuts i None
no_fault g rs cuts i more (Slot j) h is = let l = more (Slot j) h is in omega (arith, l)
no_fault g rs cuts i more (InCallee j) h is = let l = more (InCallee j) h is in omega (arith, l)
no_fault g rs cuts i more (InRegion j) h is = let l = more (InRegion j) h is in omega (arith, l)
no_fault g rs cuts i more (Order j) h is = let l = more (Order j) h is in omega (arith, l)
no_fault g rs cuts i more (Bypassed j) h is = let l = more (Bypassed j) h is in omega (arith, l)
no_fault g rs cuts i more Memory h is = h

-- a test that holds, or doesn't
pub says_true : (b : Bool) (P : Type 0) → b ≡ true → SaysWhether b P → P
says_true true P is h = h
says_true false P is h = absurd (let bad : false ≡ true = is in let b : ⊥ = cc in b)

pub says_false : (b : Bool) (P : Type 0) → b ≡ false → SaysWhether b P → P → ⊥
says_false false P is h = h
says_false true P is h = absurd (let bad : true ≡ false = is in let b : ⊥ = cc in b)

pub is_unit : (g : Flow) (c : ℕ) (l : List ℕ) → l ≡ addresses_of g.units → Contains l c → IsNoUnit g c → ⊥
is_unit g c l is among none = none (subst (λ (l : List ℕ). Contains l c) is among)

pub is_none : (g : Flow) (c : ℕ) (l : List ℕ) → l ≡ addresses_of g.units → (Contains l c → ⊥) → IsNoUnit g c
is_none g c l is none among = none (subst (λ (l : List ℕ). Contains l c) (sym is) among)

-- what is told of one cut

pub told_slot : (g : Flow) (rs : List Region) (cuts : List ℕ) (k : ℕ) → k < length cuts
    → IsNoUnit g (get_or cuts k 0) → IsFaultOf g rs cuts (k + 2) (Some (Slot (k + 2)))
told_slot g rs cuts k inside bad =
    ((get_or cuts k 0, cut_at cuts k inside, bad), refl, from_slot g rs cuts (k + 2))

pub told_callee : (g : Flow) (rs : List Region) (cuts : List ℕ) (k : ℕ) → k < length cuts
    → (IsNoUnit g (get_or cuts k 0) → ⊥)
    → IsInCallee g (get_or cuts k 0) → IsFaultOf g rs cuts (k + 2) (Some (InCallee (k + 2)))
told_callee g rs cuts k inside unit bad =
    ((get_or cuts k 0, cut_at cuts k inside, bad), refl, from_callee g rs cuts k (from_slot g rs cuts (k + 2)) unit)

pub told_region : (g : Flow) (rs : List Region) (cuts : List ℕ) (k : ℕ) → k < length cuts
    → (IsNoUnit g (get_or cuts k 0) → ⊥)
    → (IsInCallee g (get_or cuts k 0) → ⊥)
    → IsInRegion rs (get_or cuts k 0) → IsFaultOf g rs cuts (k + 2) (Some (InRegion (k + 2)))
told_region g rs cuts k inside unit own bad = (
  (get_or cuts k 0, cut_at cuts k inside, bad),
  refl,
  from_region g rs cuts k
      (from_callee g rs cuts k (from_slot g rs cuts (k + 2)) unit) own,
)

pub told_order : (g : Flow) (rs : List Region) (cuts : List ℕ) (k : ℕ) → k < length cuts
    → (IsNoUnit g (get_or cuts k 0) → ⊥)
    → (IsInCallee g (get_or cuts k 0) → ⊥)
    → (IsInRegion rs (get_or cuts k 0) → ⊥)
    → IsOutOfOrder g cuts (k + 2) (get_or cuts k 0) → IsFaultOf g rs cuts (k + 2) (Some (Order (k + 2)))
told_order g rs cuts k inside unit own free bad = (
  (get_or cuts k 0, cut_at cuts k inside, bad),
  refl,
  from_order g rs cuts k
      (from_region g rs cuts k (from_callee g rs cuts k (from_slot g rs cuts (k + 2)) unit) own) free,
)

pub told_bypassed : (g : Flow) (rs : List Region) (cuts : List ℕ) (k : ℕ) → k < length cuts
    → (IsNoUnit g (get_or cuts k 0) → ⊥)
    → (IsInCallee g (get_or cuts k 0) → ⊥)
    → (IsInRegion rs (get_or cuts k 0) → ⊥)
    → (IsOutOfOrder g cuts (k + 2) (get_or cuts k 0) → ⊥)
    → IsBypassed g (get_or cuts k 0) → IsFaultOf g rs cuts (k + 2) (Some (Bypassed (k + 2)))
told_bypassed g rs cuts k inside unit own free ordered bad = (
  (get_or cuts k 0, cut_at cuts k inside, bad),
  refl,
  from_bypassed g rs cuts k
      (from_order g rs cuts k (from_region g rs cuts k (from_callee g rs cuts k (from_slot g rs cuts (k + 2)) unit)
      own) free) ordered,
)

pub told_none : (g : Flow) (rs : List Region) (cuts : List ℕ) (k : ℕ)
    → (IsNoUnit g (get_or cuts k 0) → ⊥)
    → (IsInCallee g (get_or cuts k 0) → ⊥)
    → (IsInRegion rs (get_or cuts k 0) → ⊥)
    → (IsOutOfOrder g cuts (k + 2) (get_or cuts k 0) → ⊥)
    → (IsBypassed g (get_or cuts k 0) → ⊥)
    → IsFaultOf g rs cuts (k + 2) None
told_none g rs cuts k unit own free ordered passed =
    no_fault g rs cuts (k + 2) (from_none g rs cuts k (from_bypassed g rs cuts k
    (from_order g rs cuts k (from_region g rs cuts k (from_callee g rs cuts k (from_slot g rs cuts (k + 2)) unit)
    own) free) ordered) passed)

-- the first fault of all cuts

cut_below : (cuts : List ℕ) (i c : ℕ) → IsCut cuts i c → i < length cuts + 2
cut_below cuts i c cut = let n = cut.number in let l = slice_get_within cuts cut.place c cut.at in omega (arith, n, l)

number_below : (g : Flow) (rs : List Region) (cuts : List ℕ) (fault : CutFault) → Has g rs cuts fault
    → number_of fault < length cuts + 2
number_below g rs cuts (Slot i) (c, cut, bad) = cut_below cuts i c cut
number_below g rs cuts (InCallee i) (c, cut, bad) = cut_below cuts i c cut
number_below g rs cuts (InRegion i) (c, cut, bad) = cut_below cuts i c cut
number_below g rs cuts (Order i) (c, cut, bad) = cut_below cuts i c cut
number_below g rs cuts (Bypassed i) (c, cut, bad) = cut_below cuts i c cut
number_below g rs cuts Memory h = absurd h

-- each cut before this one has no fault
abbrev pub AreSound : Flow → List Region → List ℕ → ℕ → Type 0
AreSound g rs cuts i = (fault : CutFault) → Has g rs cuts fault → i ≤ number_of fault

number_from : (g : Flow) (rs : List Region) (cuts : List ℕ) (fault : CutFault) → Has g rs cuts fault
    → 2 ≤ number_of fault
number_from g rs cuts (Slot i) (c, cut, bad) = let n = cut.number in omega (arith, n)
number_from g rs cuts (InCallee i) (c, cut, bad) = let n = cut.number in omega (arith, n)
number_from g rs cuts (InRegion i) (c, cut, bad) = let n = cut.number in omega (arith, n)
number_from g rs cuts (Order i) (c, cut, bad) = let n = cut.number in omega (arith, n)
number_from g rs cuts (Bypassed i) (c, cut, bad) = let n = cut.number in omega (arith, n)
number_from g rs cuts Memory h = absurd h

pub sound_none : (g : Flow) (rs : List Region) (cuts : List ℕ) → AreSound g rs cuts (0 + 2)
sound_none g rs cuts fault h = number_from g rs cuts fault h

pub sound_more : (g : Flow) (rs : List Region) (cuts : List ℕ) (k : ℕ) → IsFaultOf g rs cuts (k + 2) None
    → AreSound g rs cuts (k + 2)
    → AreSound g rs cuts (k + 1 + 2)
sound_more g rs cuts k none sound fault h = elim (cases_order (number_of fault) (k + 2)) [
  | inl is ↦ absurd (none fault h is)
  | inr (inl less) ↦ absurd (let l = sound fault h in omega (arith, l, less))
  | inr (inr more) ↦ omega (arith, more)
]

pub sound_all : (g : Flow) (rs : List Region) (cuts : List ℕ) (k : ℕ) → length cuts ≤ k → AreSound g rs cuts (k + 2)
    → IsFaultOfAll g rs cuts None
sound_all g rs cuts k past sound fault h =
    let l = sound fault h in let b = number_below g rs cuts fault h in omega (arith, l, b, past)

pub first_told : (g : Flow) (rs : List Region) (cuts : List ℕ) (k : ℕ) (fault : CutFault) → AreSound g rs cuts (k + 2)
    → IsFaultOf g rs cuts (k + 2) (Some fault) → IsFirst g rs cuts fault
first_told g rs cuts k fault sound told = record {
  has = told.0;
  first = λ other h. elim (cases_order (number_of other) (k + 2)) [
    | inl is ↦ inr (told.1 ∙ sym is, told.2 other h is)
    | inr (inl less) ↦ absurd (let l = sound other h in omega (arith, l, less))
    | inr (inr more) ↦ inl (let n = told.1 in omega (arith, more, n))
  ];
}
