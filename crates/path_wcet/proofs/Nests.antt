-- What nested regions keep of each edge inside a function and of each function.
use Rattle.std.proofs.Common.{◌≡◌, refl, sym, ap, subst, ◌∙◌, ℕ, ◌<◌, Bool, true, false, List, [], ◌∷◌, length, get_or, take, arith, ◌⊎◌, inl, inr, Some, Option, eq-eqb}
use Rattle.std.specs.Prelude.{◌&&◌, ◌||◌, ◌==◌, not, nat_le, slice_get}
use Rattle.std.specs.List.{Contains, list_any}
use Rattle.std.proofs.Common.{map}
use Rattle.std.proofs.lemmas.Bool.{cases_order, cases_eq, eqb-true}
use Rattle.std.proofs.lemmas.List.Elements.{Contains-append_right, Contains-get_or}
use Rattle.flow_graph.specs.declared.parts.Unit.{Unit as FlowUnit}
use Rattle.std.proofs.lemmas.List.{get_or-take, get_or_default, length-take}
use Rattle.std.proofs.lemmas.List.Folds.{list_any_at}
use Rattle.std.proofs.lemmas.Option.{slice_get-get_or}
use Rattle.visa_io.specs.declared.records.Region.{Region}
use Rattle.flow_graph.specs.Flow.{Flow}
use Rattle.flow_graph.specs.declared.parts.Edge.{Edge}
use Rattle.loop_regions.specs.Regions.{AreNested, IsInner, clashes, is_crossing, is_unit, is_within, option_any, outside, shares}
use Rattle.loop_regions.specs.Walks.{holds}
use Rattle.path_wcet.specs.Paid.{AreEntered}
use Rattle.path_wcet.specs.Tables.{AreApart}
use Rattle.path_wcet.specs.Longest.{AreCalls, IsOf}
use Rattle.path_wcet.specs.Longest.IsOf.{First, Further}
use Rattle.loop_regions.proofs.FreeWays.{unmapped}
use Rattle.std.proofs.lemmas.Bool.Decides.{nat_tests}

at_place : (rs : List Region) (r : Region) (c : Contains rs r) → slice_get rs c.0 ≡ Some r
at_place rs r c = slice_get-get_or rs c.0 r c.1 ∙ ap (λ (x : Region). let o : Option Region = Some x in o) c.2

not_crossing : (g : Flow) (rs : List Region) → AreNested g rs → (r : Region) (c : Contains rs r) → is_crossing g.units (take c.0 rs) r ≡ false
not_crossing g rs n r c = ap (option_any (λ x. is_crossing g.units (take c.0 rs) x)) (sym (at_place rs r c)) ∙ n.crossing c.0

record IsPlaced (h u a : Bool) : Type 0 where
  held : h ≡ true
  unit : u ≡ true
  apart : a ≡ false

placed : (h u a : Bool) → (not (h && u) || a) ≡ false → IsPlaced h u a
placed true true false is = record { held = refl; unit = refl; apart = refl }
placed true true true is = let bad : true ≡ false = is in absurd (let b : ⊥ = cc in b)
placed true false a is = let bad : true ≡ false = is in absurd (let b : ⊥ = cc in b)
placed false u a is = let bad : true ≡ false = is in absurd (let b : ⊥ = cc in b)

pub held_header : (g : Flow) (rs : List Region) → AreNested g rs → (r : Region) → Contains rs r → holds r r.header ≡ true
held_header g rs n r c = (placed (holds r r.header) (is_unit g.units r.header) (list_any (clashes r) (take c.0 rs)) (not_crossing g rs n r c)).held

pub unit_header : (g : Flow) (rs : List Region) → AreNested g rs → (r : Region) → Contains rs r → is_unit g.units r.header ≡ true
unit_header g rs n r c = (placed (holds r r.header) (is_unit g.units r.header) (list_any (clashes r) (take c.0 rs)) (not_crossing g rs n r c)).unit

-- an earlier region has another header
or_true : (a b : Bool) → a ≡ true → (a || b) ≡ true
or_true true b is = refl
or_true false b is = let bad : false ≡ true = is in absurd (let c : ⊥ = cc in c)

pub earlier : (g : Flow) (rs : List Region) → AreNested g rs → (r x : Region) (c : Contains rs r) (d : Contains rs x) → d.0 < c.0 → r.header ≡ x.header → ⊥
earlier g rs n r x c d less same =
    let none = (placed (holds r r.header) (is_unit g.units r.header) (list_any (clashes r) (take c.0 rs)) (not_crossing g rs n r c)).apart in
    let inside : d.0 < length (take c.0 rs) = (let l = length-take c.0 rs in let k = c.1 in omega (arith, l)) in
    let there : get_or (take c.0 rs) d.0 x ≡ x = get_or-take c.0 rs d.0 x less ∙ d.2 in
    let clash : clashes r (get_or (take c.0 rs) d.0 x) ≡ true = ap (clashes r) there ∙ or_true (r.header == x.header) _ (eq-eqb r.header x.header same) in
    let any = list_any_at (clashes r) (take c.0 rs) d.0 x inside clash in
    let bad : true ≡ false = sym any ∙ none in absurd (let b : ⊥ = cc in b)

pub one_region : (g : Flow) (rs : List Region) → AreNested g rs → (r x : Region) → Contains rs r → Contains rs x → r.header ≡ x.header → r ≡ x
one_region g rs n r x c d same = elim (cases_order c.0 d.0) [
  | inl is ↦ sym c.2 ∙ get_or_default rs c.0 r x c.1 ∙ ap (λ k. get_or rs k x) is ∙ d.2
  | inr (inl less) ↦ absurd (earlier g rs n x r d c less (sym same))
  | inr (inr more) ↦ absurd (earlier g rs n r x c d more same)
]

pub entered : (g : Flow) (rs : List Region) → AreNested g rs → (e : Edge) → IsInner g e → AreEntered rs e
entered g rs n e inner = record {
  header = λ r c. held_header g rs n r c;
  unique = λ r x c d same. one_region g rs n r x c d same;
  enters = λ r c within out. elim (cases_eq e.to r.header) [
    | inl is ↦ is
    | inr aside ↦ absurd (n.side c.0 e.from e.to (r, at_place rs r c, record { inside = within; aside = aside; comes = inl (e, inner, refl, refl, out) }))
  ];
}

pub entered_function : (g : Flow) (rs : List Region) → AreNested g rs → (f : ℕ) → Contains g.functions f → (r : Region) → Contains rs r → holds r f ≡ true → f ≡ r.header
entered_function g rs n f among r c within = elim (cases_eq f r.header) [
  | inl is ↦ is
  | inr aside ↦ absurd (n.side c.0 outside f (r, at_place rs r c, record { inside = within; aside = aside; comes = inr (refl, among) }))
]

-- a header is the address of a unit
unit_among : (units : List FlowUnit) (a : ℕ) → is_unit units a ≡ true → Contains (map (λ unit. unit.at) units) a
unit_among [] a is = let bad : false ≡ true = is in absurd (let b : ⊥ = cc in b)
unit_among (u ∷ units) a is = by_test (u.at == a) refl is (λ h. unit_among units a h)
  where
    by_test : (b : Bool) → (u.at == a) ≡ b → (b || is_unit units a) ≡ true → (is_unit units a ≡ true → Contains (map (λ unit. unit.at) units) a) → Contains (u.at ∷ map (λ unit. unit.at) units) a
    by_test true e h more = subst (Contains (u.at ∷ map (λ unit. unit.at) units)) (eqb-true u.at a e) (0, omega arith, refl)
    by_test false e h more = Contains-append_right (u.at ∷ []) (map (λ unit. unit.at) units) a (more h)

pub headers_among : (g : Flow) (rs : List Region) → AreNested g rs → (addresses : List ℕ) → addresses ≡ map (λ unit. unit.at) g.units → (k : ℕ) (d : Region) → k < length rs → Contains addresses (get_or rs k d).header
headers_among g rs n addresses is k d inside =
    subst (λ (l : List ℕ). Contains l (get_or rs k d).header) (sym is) (unit_among g.units (get_or rs k d).header (unit_header g rs n (get_or rs k d) (Contains-get_or rs k d inside)))

-- of two regions that share an address, one lies in the other
apart : (g : Flow) (rs : List Region) → AreNested g rs → (r x : Region) (c : Contains rs r) (d : Contains rs x) → d.0 < c.0 → clashes r x ≡ false
apart g rs n r x c d less = by_test (clashes r x) refl
  where
    none : list_any (clashes r) (take c.0 rs) ≡ false
    none = (placed (holds r r.header) (is_unit g.units r.header) (list_any (clashes r) (take c.0 rs)) (not_crossing g rs n r c)).apart

    by_test : (b : Bool) → clashes r x ≡ b → b ≡ false
    by_test false is = refl
    by_test true is =
        let inside : d.0 < length (take c.0 rs) = (let l = length-take c.0 rs in let k = c.1 in omega (arith, l)) in
        let there : get_or (take c.0 rs) d.0 x ≡ x = get_or-take c.0 rs d.0 x less ∙ d.2 in
        let any = list_any_at (clashes r) (take c.0 rs) d.0 x inside (ap (clashes r) there ∙ is) in
        let bad : true ≡ false = sym any ∙ none in absurd (let b : ⊥ = cc in b)

clash_within : (a s w : Bool) → (a || (s && not w)) ≡ false → s ≡ true → w ≡ true
clash_within true s w is shared = let bad : true ≡ false = is in absurd (let b : ⊥ = cc in b)
clash_within false true true is shared = refl
clash_within false true false is shared = let bad : true ≡ false = is in absurd (let b : ⊥ = cc in b)
clash_within false false w is shared = let bad : false ≡ true = shared in absurd (let b : ⊥ = cc in b)

and_both : (a b : Bool) → (a && b) ≡ true → (a ≡ true) × (b ≡ true)
and_both true b is = (refl, is)
and_both false b is = let bad : false ≡ true = is in absurd (let b : ⊥ = cc in b)

both_and : (a b : Bool) → a ≡ true → b ≡ true → (a && b) ≡ true
both_and true b p q = q
both_and false b p q = p

or_cases : (a b : Bool) → (a || b) ≡ true → (a ≡ true) ⊎ (b ≡ true)
or_cases true b is = inl refl
or_cases false b is = inr is

le_on : (a b c : ℕ) → nat_le a b ≡ true → nat_le b c ≡ true → nat_le a c ≡ true
le_on a b c p q = grind (arith, nat_tests)

shared : (r x : Region) (u : ℕ) → holds r u ≡ true → holds x u ≡ true → shares r x ≡ true
shared r x u one two =
    let p = and_both (nat_le r.first u) (nat_le u r.last) one in
    let q = and_both (nat_le x.first u) (nat_le u x.last) two in
    both_and (nat_le r.first x.last) (nat_le x.first r.last) (le_on r.first u x.last p.0 q.1) (le_on x.first u r.last q.0 p.1)

pub within_holds : (r x : Region) → is_within r x ≡ true → (u : ℕ) → holds r u ≡ true → holds x u ≡ true
within_holds r x within u held =
    let p = and_both (nat_le x.first r.first) (nat_le r.last x.last) within in
    let q = and_both (nat_le r.first u) (nat_le u r.last) held in
    both_and (nat_le x.first u) (nat_le u x.last) (le_on x.first r.first u p.0 q.0) (le_on u r.last x.last q.1 p.1)

pub one_within : (g : Flow) (rs : List Region) → AreNested g rs → (r x : Region) → Contains rs r → Contains rs x → (u : ℕ) → holds r u ≡ true → holds x u ≡ true → (is_within r x ≡ true) ⊎ (is_within x r ≡ true)
one_within g rs n r x c d u one two = elim (cases_order c.0 d.0) [
  | inl is ↦ inl (subst (λ (y : Region). is_within r y ≡ true) (sym c.2 ∙ get_or_default rs c.0 r x c.1 ∙ ap (λ k. get_or rs k x) is ∙ d.2) (both_and (nat_le r.first r.first) (nat_le r.last r.last) (grind (arith, nat_tests)) (grind (arith, nat_tests))))
  | inr (inl less) ↦ elim (or_cases (is_within x r) (is_within r x) (clash_within (x.header == r.header) (shares x r) (is_within x r || is_within r x) (apart g rs n x r d c less) (shared x r u two one))) [ inl a ↦ inr a | inr b ↦ inl b ]
  | inr (inr more) ↦ or_cases (is_within r x) (is_within x r) (clash_within (r.header == x.header) (shares r x) (is_within r x || is_within x r) (apart g rs n r x c d more) (shared r x u one two))
]

-- an inner region doesn't hold the header of an outer one: from where functions begin both are entered there
outer_header : (g : Flow) (rs : List Region) → AreNested g rs → (inner outer : Region) → Contains rs inner → Contains rs outer → is_within inner outer ≡ true → holds inner outer.header ≡ true → (f : ℕ) → Contains g.functions f → (u : ℕ) → IsOf g f u → holds outer u ≡ true → inner.header ≡ outer.header
outer_header g rs n inner outer c d within held f among u First there =
    let at = entered_function g rs n f among outer d there in
    sym (entered_function g rs n f among inner c (subst (λ v. holds inner v ≡ true) (sym at) held)) ∙ at
outer_header g rs n inner outer c d within held f among u (Further e edge kind before) there = by_from (holds outer e.from) refl (λ is. outer_header g rs n inner outer c d within held f among e.from before is)
  where
    by_from : (b : Bool) → holds outer e.from ≡ b → (holds outer e.from ≡ true → inner.header ≡ outer.header) → inner.header ≡ outer.header
    by_from true is older = older is
    by_from false is older =
        let x = entered g rs n e (record { among = edge; inner = kind }) in
        let at = x.enters outer d there is in
        let out : holds inner e.from ≡ false = by_inner (holds inner e.from) refl in
        sym (x.enters inner c (subst (λ v. holds inner v ≡ true) (sym at) held) out) ∙ at
      where
        by_inner : (b : Bool) → holds inner e.from ≡ b → b ≡ false
        by_inner false off = refl
        by_inner true off = let bad : true ≡ false = sym (within_holds inner outer within e.from off) ∙ is in absurd (let b : ⊥ = cc in b)

pub header_unit : (g : Flow) (rs : List Region) → AreNested g rs → (r : Region) → Contains rs r → (unit : FlowUnit) × Contains g.units unit × (unit.at ≡ r.header)
header_unit g rs n r c = unmapped (λ (unit : FlowUnit). unit.at) g.units r.header (unit_among g.units r.header (unit_header g rs n r c))

same_header : (g : Flow) (rs : List Region) → AreNested g rs → AreCalls g → (inner outer : Region) → Contains rs inner → Contains rs outer → is_within inner outer ≡ true → holds inner outer.header ≡ true → inner.header ≡ outer.header
same_header g rs n calls inner outer c d within held =
    let h = header_unit g rs n outer d in
    let r = calls.reached h.0 h.1 in
    outer_header g rs n inner outer c d within held r.0 r.1 h.0.at r.2 (subst (λ v. holds outer v ≡ true) (sym h.2) (held_header g rs n outer d))

-- a region that holds another one's header holds all of it, and not the other way round
pub holds_all : (g : Flow) (rs : List Region) → AreNested g rs → AreCalls g → (r x : Region) → Contains rs r → Contains rs x → holds x r.header ≡ true → (u : ℕ) → holds r u ≡ true → holds x u ≡ true
holds_all g rs n calls r x c d held u there = elim (one_within g rs n r x c d r.header (held_header g rs n r c) held) [
  | inl within ↦ within_holds r x within u there
  | inr within ↦ subst (λ (y : Region). holds y u ≡ true) (one_region g rs n r x c d (sym (same_header g rs n calls x r d c within held))) there
]

pub holds_one : (g : Flow) (rs : List Region) → AreNested g rs → AreCalls g → (r x : Region) → Contains rs r → Contains rs x → holds x r.header ≡ true → holds r x.header ≡ true → r.header ≡ x.header
holds_one g rs n calls r x c d one two = elim (one_within g rs n r x c d r.header (held_header g rs n r c) one) [
  | inl within ↦ same_header g rs n calls r x c d within two
  | inr within ↦ sym (same_header g rs n calls x r d c within one)
]

pub apart_headers : (g : Flow) (rs : List Region) → AreNested g rs → AreApart rs
apart_headers g rs n r x c d same = one_region g rs n r x c d same
