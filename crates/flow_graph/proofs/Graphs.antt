-- What is built of places is the graph of their code.
use Rattle.std.proofs.Common.{ℕ, zero, suc, ◌+◌, ◌<◌, ◌≤◌, ◌≡◌, inl, inr, refl, sym, ap, subst, ◌∙◌, Bool, true, false, Option, Some, None, List, [], ◌∷◌, ◌++◌, Contains, map, take, length, get_or, arith, add-one, is_none}
use Rattle.std.proofs.lemmas.Bool.{cases_eq}
use Rattle.std.proofs.lemmas.List.{map-append, take_more}
use Rattle.std.proofs.lemmas.List.Elements.{Contains-append_cases, Contains-append_left, Contains-append_right, Contains-get_or}
use Rattle.visa_io.specs.declared.records.Code.{Code}
use Rattle.mips_isa.specs.declared.instr.Instr.{Instr}
use Rattle.flow_graph.specs.Build.{unit_at, unit_by, units_upto}
use Rattle.flow_graph.specs.Code.{instr_at, is_code, is_control_at, is_control_instr, passes}
use Rattle.flow_graph.specs.Edges.{edge_of}
use Rattle.flow_graph.specs.EdgeLists.{exit_edge, exit_edges, own_upto}
use Rattle.flow_graph.specs.Faults.{leaves_code}
use Rattle.flow_graph.specs.Flow.{HasShape, Has}
use Rattle.flow_graph.specs.FunctionParts.{is_return, only_if, returns_upto}
use Rattle.flow_graph.specs.Making.{address_at}
use Rattle.flow_graph.specs.Places.{exit_of, exits_at}
use Rattle.flow_graph.specs.Reached.{Reached}
use Rattle.flow_graph.specs.Sites.{IsSite, SlotIs, site_of}
use Rattle.flow_graph.specs.declared.fault.FlowFault.{FlowFault}
use Rattle.flow_graph.specs.declared.fault.FlowFault.TheVariants as fault
use Rattle.flow_graph.specs.declared.parts.Edge.{Edge}
use Rattle.flow_graph.specs.declared.parts.EdgeKind.{EdgeKind}
use Rattle.flow_graph.specs.declared.parts.EdgeKind.TheVariants.{Next, Taken, Call, Return, Over}
use Rattle.flow_graph.specs.declared.parts.Unit.{Unit as FlowUnit}
use Rattle.flow_graph.specs.declared.places.Places.{Places}
use Rattle.flow_graph.specs.declared.site.Exits.{Exits}
use Rattle.flow_graph.specs.declared.site.Site.{Site}
use Rattle.flow_graph.specs.declared.site.Slot.{Slot}
use Rattle.flow_graph.specs.declared.site.Slot.TheVariants as slot
use Rattle.flow_graph.proofs.Bridge.{addr}
use Rattle.flow_graph.proofs.Members.{in_first, in_fourth, in_head, in_one, in_one_of, in_second, in_third, none_in_nil}
use Rattle.flow_graph.proofs.OwnFaults.{both, word_here, word_slot}
use Rattle.flow_graph.proofs.Verdict.{IsScene, place_reached}

abbrev pub HasSlot : Slot → Type 0
HasSlot slot.Absent = Unit {0}
HasSlot (slot.Holds i) = Unit {0}
HasSlot slot.OffCode = ⊥
HasSlot slot.Reserved = ⊥

-- the site of a unit that is reached, in code without faults
pub record IsWhole (code : Code) (site : Site) : Type 0 where
  pub instr : Instr
  pub first : site.first ≡ Some instr
  pub slot : HasSlot site.slot

true_false : true ≡ false → ⊥
true_false e = cc

none_is_some : (v : ℕ) → None ≡ Some v → ⊥
none_is_some v e = cc

off_leaves : (code : Code) (at : ℕ) → is_control_at code at ≡ true → is_code code (at + 4) ≡ false → leaves_code code at ≡ true
off_leaves code at c o = rw (c, o) refl

pub whole_site : (code : Code) (p : Places) (start : ℕ) (reached at : List ℕ) → IsScene code p start reached at → ((other : FlowFault) → Has code (addr p start) other → ⊥) → (u : ℕ) → Contains reached u → IsWhole code (site_of p.sites.items u)
unfolding Has
whole_site code p start reached at s clean u among =
    let r = place_reached code p start reached at s u among in
    let site : IsSite code p.addresses.items (site_of p.sites.items u) = s.places.sites.each u r.0 in
    let here : (site_of p.sites.items u).at ≡ addr p u = s.places.sites.at u r.0 in
    let reached_here : Reached code (addr p start) (site_of p.sites.items u).at = subst (λ (n : ℕ). Reached code (addr p start) n) (sym here) r.1 in
    whole (site_of p.sites.items u).first refl (site_of p.sites.items u).slot refl site reached_here
  where
    whole : (o : Option Instr) → (site_of p.sites.items u).first ≡ o → (l : Slot) → (site_of p.sites.items u).slot ≡ l → IsSite code p.addresses.items (site_of p.sites.items u) → Reached code (addr p start) (site_of p.sites.items u).at → IsWhole code (site_of p.sites.items u)
    whole None e l f site r = absurd (clean (fault.Reserved (site_of p.sites.items u).at) (record { unit = (site_of p.sites.items u).at; reached = r; has = word_here code (site_of p.sites.items u).at }, both (is_code code (site_of p.sites.items u).at) _ site.is (ap (λ (x : Option Instr). is_none x) (site.first ∙ e))))
    whole (Some i) e slot.Absent f site r = record { instr = i; first = e; slot = subst HasSlot (sym f) tt }
    whole (Some i) e (slot.Holds j) f site r = record { instr = i; first = e; slot = subst HasSlot (sym f) tt }
    whole (Some i) e slot.OffCode f site r =
        let l : SlotIs code (site_of p.sites.items u).at slot.OffCode = subst (λ (x : Slot). SlotIs code (site_of p.sites.items u).at x) f site.slot in
        absurd (clean (fault.OffCode (site_of p.sites.items u).at) (inl (r, off_leaves code (site_of p.sites.items u).at l.0 l.1)))
    whole (Some i) e slot.Reserved f site r =
        let l : SlotIs code (site_of p.sites.items u).at slot.Reserved = subst (λ (x : Slot). SlotIs code (site_of p.sites.items u).at x) f site.slot in
        absurd (clean (fault.Reserved ((site_of p.sites.items u).at + 4)) (record { unit = (site_of p.sites.items u).at; reached = r; has = word_slot code (site_of p.sites.items u).at l.0 }, both (is_code code ((site_of p.sites.items u).at + 4)) _ l.1 (ap (λ (x : Option Instr). is_none x) l.2)))

-- the unit at a whole site
pub one_unit : (site : Site) (i : Instr) → site.first ≡ Some i → (s : Slot) → site.slot ≡ s → HasSlot s → (unit : FlowUnit) × (unit_at site ≡ unit ∷ []) × (unit.at ≡ site.at)
one_unit site i e slot.Absent f h = (record { at = site.at; length = 4; first = i; slot = None }, rw (e, f) refl, refl)
one_unit site i e (slot.Holds j) f h = (record { at = site.at; length = 8; first = i; slot = Some j }, rw (e, f) refl, refl)
one_unit site i e slot.OffCode f h = elim h [ ]
one_unit site i e slot.Reserved f h = elim h [ ]

-- what is listed at a site is a unit of the code
shape_absent : (code : Code) (at : ℕ) (i : Instr) (b : Bool) → b ≡ false → HasShape code (record { at = at; length = 4; first = i; slot = None }) b
shape_absent code at i b e = subst (λ (c : Bool). HasShape code (record { at = at; length = 4; first = i; slot = None }) c) (sym e) (refl, refl)

shape_holds : (code : Code) (at : ℕ) (i j : Instr) (b : Bool) → b ≡ true → instr_at code (at + 4) ≡ Some j → HasShape code (record { at = at; length = 8; first = i; slot = Some j }) b
shape_holds code at i j b e slot = subst (λ (c : Bool). HasShape code (record { at = at; length = 8; first = i; slot = Some j }) c) (sym e) (slot, refl)

pub unit_shape : (code : Code) (site : Site) (at : ℕ) → SlotIs code at site.slot → (i : Instr) → instr_at code at ≡ Some i → (unit : FlowUnit) → Contains (unit_by at i site.slot) unit → (unit.at ≡ at) × (unit.first ≡ i) × HasShape code unit (is_control_instr unit.first)
unit_shape code site at h i e unit among = by_slot site.slot h among
  where
    by_slot : (s : Slot) → SlotIs code at s → Contains (unit_by at i s) unit → (unit.at ≡ at) × (unit.first ≡ i) × HasShape code unit (is_control_instr unit.first)
    by_slot slot.Absent h among =
        let is = in_one unit (record { at = at; length = 4; first = i; slot = None }) among in
        subst (λ (x : FlowUnit). (x.at ≡ at) × (x.first ≡ i) × HasShape code x (is_control_instr x.first)) is (refl, refl, shape_absent code at i (is_control_instr i) (sym (ap (passes is_control_instr) e) ∙ h))
    by_slot (slot.Holds j) h among =
        let is = in_one unit (record { at = at; length = 8; first = i; slot = Some j }) among in
        subst (λ (x : FlowUnit). (x.at ≡ at) × (x.first ≡ i) × HasShape code x (is_control_instr x.first)) is (refl, refl, shape_holds code at i j (is_control_instr i) (sym (ap (passes is_control_instr) e) ∙ h.0) h.2)
    by_slot slot.OffCode h among = absurd (none_in_nil unit among)
    by_slot slot.Reserved h among = absurd (none_in_nil unit among)

pub in_units : (sites : List Site) (places : List ℕ) (n : ℕ) (unit : FlowUnit) → n ≤ length places → Contains (units_upto sites places n) unit → (u : ℕ) × Contains places u × Contains (unit_at (site_of sites u)) unit
unfolding units_upto
in_units sites places zero unit few h = absurd (none_in_nil unit h)
in_units sites places (suc n) unit few h = elim (Contains-append_cases (units_upto sites places n) (unit_at (site_of sites (get_or places n 0))) unit h) [
  | inl before ↦ in_units sites places n unit (omega (arith, few)) before
  | inr here ↦ (get_or places n 0, Contains-get_or places n 0 (omega (arith, few)), here)
]

pub units_in : (sites : List Site) (places : List ℕ) (n k : ℕ) (unit : FlowUnit) → k < n → Contains (unit_at (site_of sites (get_or places k 0))) unit → Contains (units_upto sites places n) unit
unfolding units_upto
units_in sites places zero k unit below h = absurd (omega (arith, below))
units_in sites places (suc n) k unit below h = elim (cases_eq k n) [
  | inl e ↦ Contains-append_right (units_upto sites places n) (unit_at (site_of sites (get_or places n 0))) unit (subst (λ (m : ℕ). Contains (unit_at (site_of sites (get_or places m 0))) unit) e h)
  | inr other ↦ Contains-append_left (units_upto sites places n) (unit_at (site_of sites (get_or places n 0))) unit (units_in sites places n k unit (omega (arith, below, other)) h)
]

pub units_at : (code : Code) (p : Places) (start : ℕ) (reached at : List ℕ) → IsScene code p start reached at → ((other : FlowFault) → Has code (addr p start) other → ⊥) → (n : ℕ) → n ≤ length reached → map (λ (unit : FlowUnit). unit.at) (units_upto p.sites.items reached n) ≡ map (λ (k : ℕ). address_at p k) (take n reached)
unfolding units_upto
units_at code p start reached at s clean zero few = refl
units_at code p start reached at s clean (suc n) few =
    let u = get_or reached n 0 in
    let among : Contains reached u = Contains-get_or reached n 0 (omega (arith, few)) in
    let whole = whole_site code p start reached at s clean u among in
    let one = one_unit (site_of p.sites.items u) whole.instr whole.first (site_of p.sites.items u).slot refl whole.slot in
    let at_u : one.0.at ≡ address_at p u = one.2 ∙ s.places.sites.at u (place_reached code p start reached at s u among).0 in
    map-append (λ (unit : FlowUnit). unit.at) (units_upto p.sites.items reached n) (unit_at (site_of p.sites.items u))
    ∙ pair_append (units_at code p start reached at s clean n (omega (arith, few))) (ap (map (λ (unit : FlowUnit). unit.at)) one.1 ∙ ap (λ (m : ℕ). m ∷ []) at_u)
    ∙ sym (map-append (λ (k : ℕ). address_at p k) (take n reached) (u ∷ []))
    ∙ ap (map (λ (k : ℕ). address_at p k)) (sym (take_suc reached n (omega (arith, few))))
  where
    pair_append : {a b c d : List ℕ} → a ≡ b → c ≡ d → a ++ c ≡ b ++ d
    pair_append e f = rw (e, f) refl

    take_suc : (xs : List ℕ) (m : ℕ) → m < length xs → take (suc m) xs ≡ take m xs ++ get_or xs m 0 ∷ []
    take_suc xs m below = rw (← add-one) (take_more xs m 0 below)

-- edges along which units lead on
pub record IsOwnEdge (p : Places) (places : List ℕ) (n : ℕ) (e : Edge) : Type 0 where
  pub k : ℕ
  pub below : k < n
  pub kind : EdgeKind
  pub to : ℕ
  pub exit : exit_of (exits_at p.net.items (get_or places k 0)) kind ≡ Some to
  pub is : e ≡ edge_of (addr p (get_or places k 0)) (addr p to) kind

in_exit : (addresses : List ℕ) (from : ℕ) (kind : EdgeKind) (o : Option ℕ) (e : Edge) → Contains (exit_edge addresses from kind o) e → (v : ℕ) × (o ≡ Some v) × (e ≡ edge_of from (get_or addresses v 0) kind)
in_exit addresses from kind None e h = absurd (none_in_nil e h)
in_exit addresses from kind (Some v) e h = (v, refl, sym (in_one e (edge_of from (get_or addresses v 0) kind) h))

exit_in : (addresses : List ℕ) (from : ℕ) (kind : EdgeKind) (o : Option ℕ) (v : ℕ) → o ≡ Some v → Contains (exit_edge addresses from kind o) (edge_of from (get_or addresses v 0) kind)
exit_in addresses from kind o v e = rw e (0, omega arith, refl)

in_exits : (addresses : List ℕ) (from : ℕ) (x : Exits) (e : Edge) → Contains (exit_edges addresses from x) e → (kind : EdgeKind) × (v : ℕ) × (exit_of x kind ≡ Some v) × (e ≡ edge_of from (get_or addresses v 0) kind)
in_exits addresses from x e h =
    elim (in_one_of (exit_edge addresses from Next x.next) (exit_edge addresses from Taken x.taken) (exit_edge addresses from Call x.call) (exit_edge addresses from Over x.over) e h) [
      | inl ab ↦ elim ab [ inl a ↦ as_kind Next (in_exit addresses from Next x.next e a) | inr b ↦ as_kind Taken (in_exit addresses from Taken x.taken e b) ]
      | inr cd ↦ elim cd [ inl c ↦ as_kind Call (in_exit addresses from Call x.call e c) | inr d ↦ as_kind Over (in_exit addresses from Over x.over e d) ]
    ]
  where
    as_kind : (kind : EdgeKind) → (v : ℕ) × (exit_of x kind ≡ Some v) × (e ≡ edge_of from (get_or addresses v 0) kind) → (k : EdgeKind) × (v : ℕ) × (exit_of x k ≡ Some v) × (e ≡ edge_of from (get_or addresses v 0) k)
    as_kind kind (v, exit, is) = (kind, v, exit, is)

exits_in : (addresses : List ℕ) (from : ℕ) (x : Exits) (kind : EdgeKind) (v : ℕ) → exit_of x kind ≡ Some v → Contains (exit_edges addresses from x) (edge_of from (get_or addresses v 0) kind)
exits_in addresses from x Next v e = in_first (exit_edge addresses from Next x.next) (exit_edge addresses from Taken x.taken) (exit_edge addresses from Call x.call) (exit_edge addresses from Over x.over) _ (exit_in addresses from Next x.next v e)
exits_in addresses from x Taken v e = in_second (exit_edge addresses from Next x.next) (exit_edge addresses from Taken x.taken) (exit_edge addresses from Call x.call) (exit_edge addresses from Over x.over) _ (exit_in addresses from Taken x.taken v e)
exits_in addresses from x Call v e = in_third (exit_edge addresses from Next x.next) (exit_edge addresses from Taken x.taken) (exit_edge addresses from Call x.call) (exit_edge addresses from Over x.over) _ (exit_in addresses from Call x.call v e)
exits_in addresses from x Over v e = in_fourth (exit_edge addresses from Next x.next) (exit_edge addresses from Taken x.taken) (exit_edge addresses from Call x.call) (exit_edge addresses from Over x.over) _ (exit_in addresses from Over x.over v e)
exits_in addresses from x Return v e = absurd (none_is_some v e)

pub in_own : (p : Places) (places : List ℕ) (n : ℕ) (e : Edge) → Contains (own_upto p.addresses.items p.net.items places n) e → IsOwnEdge p places n e
unfolding own_upto
in_own p places zero e h = absurd (none_in_nil e h)
in_own p places (suc n) e h = elim (Contains-append_cases (own_upto p.addresses.items p.net.items places n) _ e h) [
  | inl before ↦ let o = in_own p places n e before in record { k = o.k; below = omega (arith, o.below); kind = o.kind; to = o.to; exit = o.exit; is = o.is }
  | inr here ↦ let (kind, v, exit, is) = in_exits p.addresses.items (addr p (get_or places n 0)) (exits_at p.net.items (get_or places n 0)) e here in record { k = n; below = omega arith; kind = kind; to = v; exit = exit; is = is }
]

pub own_in : (p : Places) (places : List ℕ) (n k : ℕ) (kind : EdgeKind) (v : ℕ) → k < n → exit_of (exits_at p.net.items (get_or places k 0)) kind ≡ Some v → Contains (own_upto p.addresses.items p.net.items places n) (edge_of (addr p (get_or places k 0)) (addr p v) kind)
unfolding own_upto
own_in p places zero k kind v below exit = absurd (omega (arith, below))
own_in p places (suc n) k kind v below exit = elim (cases_eq k n) [
  | inl e ↦ Contains-append_right (own_upto p.addresses.items p.net.items places n) (exit_edges p.addresses.items (addr p (get_or places n 0)) (exits_at p.net.items (get_or places n 0))) _
      (subst (λ (m : ℕ). Contains (exit_edges p.addresses.items (addr p (get_or places n 0)) (exits_at p.net.items (get_or places n 0))) (edge_of (addr p (get_or places m 0)) (addr p v) kind)) (sym e) (exits_in p.addresses.items (addr p (get_or places n 0)) (exits_at p.net.items (get_or places n 0)) kind v (subst (λ (m : ℕ). exit_of (exits_at p.net.items (get_or places m 0)) kind ≡ Some v) e exit)))
  | inr other ↦ Contains-append_left (own_upto p.addresses.items p.net.items places n) _ _ (own_in p places n k kind v (omega (arith, below, other)) exit)
]

-- the returns among units
pub in_returns : (addresses : List ℕ) (sites : List Site) (places : List ℕ) (n r : ℕ) → n ≤ length places → Contains (returns_upto addresses sites places n) r → (u : ℕ) × Contains places u × (is_return (site_of sites u) ≡ true) × (r ≡ get_or addresses u 0)
unfolding returns_upto
in_returns addresses sites places zero r few h = absurd (none_in_nil r h)
in_returns addresses sites places (suc n) r few h = elim (Contains-append_cases (returns_upto addresses sites places n) (only_if (is_return (site_of sites (get_or places n 0))) (get_or addresses (get_or places n 0) 0)) r h) [
  | inl before ↦ in_returns addresses sites places n r (omega (arith, few)) before
  | inr here ↦ by_test (is_return (site_of sites (get_or places n 0))) refl here
]
  where
    by_test : (b : Bool) → is_return (site_of sites (get_or places n 0)) ≡ b → Contains (only_if b (get_or addresses (get_or places n 0) 0)) r → (u : ℕ) × Contains places u × (is_return (site_of sites u) ≡ true) × (r ≡ get_or addresses u 0)
    by_test true e h = (get_or places n 0, Contains-get_or places n 0 (omega (arith, few)), e, sym (in_one r (get_or addresses (get_or places n 0) 0) h))
    by_test false e h = absurd (none_in_nil r h)

pub returns_in : (addresses : List ℕ) (sites : List Site) (places : List ℕ) (n k : ℕ) → k < n → is_return (site_of sites (get_or places k 0)) ≡ true → Contains (returns_upto addresses sites places n) (get_or addresses (get_or places k 0) 0)
unfolding returns_upto
returns_in addresses sites places zero k below t = absurd (omega (arith, below))
returns_in addresses sites places (suc n) k below t = elim (cases_eq k n) [
  | inl e ↦ Contains-append_right (returns_upto addresses sites places n) _ _ (subst (λ (m : ℕ). Contains (only_if (is_return (site_of sites (get_or places n 0))) (get_or addresses (get_or places n 0) 0)) (get_or addresses (get_or places m 0) 0)) (sym e) (rw (subst (λ (m : ℕ). is_return (site_of sites (get_or places m 0)) ≡ true) e t) (in_head (get_or addresses (get_or places n 0) 0) [])))
  | inr other ↦ Contains-append_left (returns_upto addresses sites places n) _ _ (returns_in addresses sites places n k (omega (arith, below, other)) t)
]
