-- What nested regions keep: each holds its header, which is a unit; of two that share an address one lies in the other;
-- and edges inside functions enter each at its header.
use Rattle.std.proofs.Common.{◌≡◌, refl, sym, ap, ◌∙◌, ℕ, ◌<◌, Bool, true, false, List, length, get_or, take, arith, ◌⊎◌, inl, inr, Some, Option, eq-eqb}
use Rattle.std.specs.Prelude.{◌&&◌, ◌||◌, ◌==◌, not, slice_get}
use Rattle.std.specs.List.{Contains, list_any}
use Rattle.std.proofs.lemmas.Bool.{cases_order, cases_eq}
use Rattle.std.proofs.lemmas.List.{get_or-take, get_or_default, length-take}
use Rattle.std.proofs.lemmas.List.Folds.{list_any_at}
use Rattle.std.proofs.lemmas.Option.{slice_get-get_or}
use Rattle.visa_io.specs.declared.records.Region.{Region}
use Rattle.flow_graph.specs.Flow.{Flow}
use Rattle.flow_graph.specs.declared.parts.Edge.{Edge}
use Rattle.loop_regions.specs.Regions.{AreNested, IsInner, clashes, is_crossing, is_unit, is_within, option_any, shares}
use Rattle.loop_regions.specs.Walks.{holds}
use Rattle.std.proofs.lemmas.Bool.Decides.{nat_tests}

at_place : (rs : List Region) (r : Region) (c : Contains rs r) → slice_get rs c.0 ≡ Some r
at_place rs r c = slice_get-get_or rs c.0 r c.1 ∙ ap (λ (x : Region). let o : Option Region = Some x in o) c.2

not_crossing : (g : Flow) (rs : List Region) → AreNested g rs → (r : Region) (c : Contains rs r)
    → is_crossing g.units (take c.0 rs) r ≡ false
not_crossing g rs n r c = ap (option_any (λ x. is_crossing g.units (take c.0 rs) x)) (sym (at_place rs r c))
    ∙ n.crossing c.0

no : {P : Type 0} → true ≡ false → P
no e = absurd (let b : ⊥ = cc in b)

record IsPlaced (h u a : Bool) : Type 0 where
  held : h ≡ true
  unit : u ≡ true
  apart : a ≡ false

placed : (h u a : Bool) → (not (h && u) || a) ≡ false → IsPlaced h u a
placed true true false is = record { held = refl; unit = refl; apart = refl }
placed true true true is = no is
placed true false a is = no is
placed false u a is = no is

placed_at : (g : Flow) (rs : List Region) → AreNested g rs → (r : Region) (c : Contains rs r)
    → IsPlaced (holds r r.header) (is_unit g.units r.header) (list_any (clashes r) (take c.0 rs))
placed_at g rs n r c =
    placed (holds r r.header) (is_unit g.units r.header) (list_any (clashes r) (take c.0 rs)) (not_crossing g rs n r c)

pub held_header : (g : Flow) (rs : List Region) → AreNested g rs → (r : Region) → Contains rs r
    → holds r r.header ≡ true
held_header g rs n r c = (placed_at g rs n r c).held

pub unit_header : (g : Flow) (rs : List Region) → AreNested g rs → (r : Region) → Contains rs r
    → is_unit g.units r.header ≡ true
unit_header g rs n r c = (placed_at g rs n r c).unit

-- a region doesn't clash with an earlier one
apart : (g : Flow) (rs : List Region) → AreNested g rs → (r x : Region) (c : Contains rs r) (d : Contains rs x)
    → d.0 < c.0
    → clashes r x ≡ false
apart g rs n r x c d less = by_test (clashes r x) refl
  where
    by_test : (b : Bool) → clashes r x ≡ b → b ≡ false
    by_test false is = refl
    by_test true is =
        let inside : d.0 < length (take c.0 rs) = (let l = length-take c.0 rs in let k = c.1 in omega (arith, l)) in
        let there : get_or (take c.0 rs) d.0 x ≡ x = get_or-take c.0 rs d.0 x less ∙ d.2 in
        no (sym (list_any_at (clashes r) (take c.0 rs) d.0 x inside (ap (clashes r) there ∙ is))
        ∙ (placed_at g rs n r c).apart)

same_place : (rs : List Region) (r x : Region) (c : Contains rs r) (d : Contains rs x) → c.0 ≡ d.0 → r ≡ x
same_place rs r x c d is = sym c.2 ∙ get_or_default rs c.0 r x c.1 ∙ ap (λ k. get_or rs k x) is ∙ d.2

or_true : (a b : Bool) → a ≡ true → (a || b) ≡ true
or_true true b is = refl
or_true false b is = no (sym is)

-- no two have one header
pub one_region : (g : Flow) (rs : List Region) → AreNested g rs → (r x : Region) → Contains rs r → Contains rs x
    → r.header ≡ x.header → r ≡ x
one_region g rs n r x c d same = elim (cases_order c.0 d.0) [
  | inl is ↦ same_place rs r x c d is
  | inr (inl less) ↦ no (sym (or_true (x.header == r.header) _ (eq-eqb x.header r.header (sym same)))
      ∙ apart g rs n x r d c less)
  | inr (inr more) ↦ no (sym (or_true (r.header == x.header) _ (eq-eqb r.header x.header same))
      ∙ apart g rs n r x c d more)
]

-- addresses that one region holds, another does
abbrev pub LiesIn : Region → Region → Type 0
LiesIn r x = (a : ℕ) → holds r a ≡ true → holds x a ≡ true

within_or : (h s w v : Bool) → (h || (s && not (w || v))) ≡ false → s ≡ true → (w ≡ true) ⊎ (v ≡ true)
within_or true s w v is share = no is
within_or false true true v is share = inl refl
within_or false true false true is share = inr refl
within_or false true false false is share = no is
within_or false false w v is share = no (sym share)

lies_in : (r x : Region) → is_within r x ≡ true → LiesIn r x
lies_in r x is a held = grind (arith, nat_tests)

shared : (r x : Region) (a : ℕ) → holds r a ≡ true → holds x a ≡ true → shares r x ≡ true
shared r x a one other = grind (arith, nat_tests)

lie_in : (r x : Region) → clashes r x ≡ false → (a : ℕ) → holds r a ≡ true → holds x a ≡ true → LiesIn r x ⊎ LiesIn x r
lie_in r x is a one other =
    elim (within_or (r.header == x.header) (shares r x) (is_within r x) (is_within x r) is (shared r x a one other)) [
      | inl within ↦ inl (lies_in r x within)
      | inr within ↦ inr (lies_in x r within)
    ]

-- of two regions that share an address one lies in the other
pub one_in_other : (g : Flow) (rs : List Region) → AreNested g rs → (r x : Region) → Contains rs r → Contains rs x
    → (a : ℕ)
    → holds r a ≡ true → holds x a ≡ true → LiesIn r x ⊎ LiesIn x r
one_in_other g rs n r x c d a one other = elim (cases_order c.0 d.0) [
  | inl is ↦ inl (λ b held. sym (ap (λ (y : Region). holds y b) (same_place rs r x c d is)) ∙ held)
  | inr (inl less) ↦ elim (lie_in x r (apart g rs n x r d c less) a other one) [ inl p ↦ inr p | inr q ↦ inl q ]
  | inr (inr more) ↦ lie_in r x (apart g rs n r x c d more) a one other
]

-- an edge inside a function that goes into a region comes from there or goes to its header
pub entered : (g : Flow) (rs : List Region) → AreNested g rs → (e : Edge) → IsInner g e → (r : Region) → Contains rs r
    → holds r e.to ≡ true → holds r e.from ≡ false → e.to ≡ r.header
entered g rs n e inner r c within out = elim (cases_eq e.to r.header) [
  | inl is ↦ is
  | inr aside ↦ absurd (n.side c.0 e.from e.to (
    r,
    at_place rs r c,
    record { inside = within; aside = aside; comes = inl (e, inner, refl, refl, out) },
  ))
]
