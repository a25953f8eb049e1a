-- The exits of a site are the edges of its unit.
use Rattle.std.proofs.Common.{ℕ, ◌+◌, ◌<◌, ◌≡◌, inl, inr, refl, sym, ap, subst, ◌∙◌, Bool, true, false, not, ◌&&◌, ◌||◌, if◌then◌else◌, Option, Some, None, is_none, List, [], ◌∷◌, ◌++◌, Contains, length, get_or, arith}
use Rattle.std.specs.List.{list_any}
use Rattle.std.proofs.lemmas.Bool.{cases_lt}
use Rattle.std.proofs.lemmas.List.{get_or_append_left, get_or_default, get_or_push, length_push}
use Rattle.std.proofs.lemmas.List.Folds.{list_any-append}
use Rattle.visa_io.specs.declared.records.Code.{Code}
use Rattle.mips_isa.specs.Kinds.{kind_of}
use Rattle.mips_isa.specs.Prediction.{single_edge_of}
use Rattle.mips_isa.specs.declared.instr.Instr.{Instr}
use Rattle.mips_isa.specs.declared.instr.Kind.{Kind}
use Rattle.mips_isa.specs.declared.instr.Kind.TheVariants as kind
use Rattle.flow_graph.specs.Code.{instr_at, is_code, is_control_at, is_control_instr, passes}
use Rattle.flow_graph.specs.Edges.{branch_edges, edge_of, edge_to, edges_by, edges_of_kind, target_of}
use Rattle.flow_graph.specs.Faults.{edges_if, is_faulty, is_indirect, is_link_branch, leads_from, leaves_code, own_edges}
use Rattle.flow_graph.specs.Places.{exit_of, no_exits}
use Rattle.flow_graph.specs.Reached.{Leads}
use Rattle.flow_graph.specs.Sites.{AreLocated, AreSitesOf, IsLed, IsLocated, IsSite, IsSiteOf, SlotIs, is_faulty_by, is_off, is_plain_slot, is_short, lacks, leaves_by, no_site, site_of}
use Rattle.flow_graph.specs.Table.{IsFound, IsTable}
use Rattle.flow_graph.specs.Ways.{branch_ways, ways_by, ways_of}
use Rattle.flow_graph.specs.declared.parts.Edge.{Edge}
use Rattle.flow_graph.specs.declared.parts.EdgeKind.{EdgeKind}
use Rattle.flow_graph.specs.declared.parts.EdgeKind.TheVariants as edge
use Rattle.flow_graph.specs.declared.site.Exits.{Exits}
use Rattle.flow_graph.specs.declared.site.Site.{Site}
use Rattle.flow_graph.specs.declared.site.Slot.{Slot}
use Rattle.flow_graph.specs.declared.site.Slot.TheVariants as slot
use Rattle.flow_graph.specs.declared.table.Table.{Table}
use Rattle.flow_graph.specs.declared.ways.Ways.{Ways}
use Rattle.flow_graph.proofs.Members.{in_first, in_fourth, in_one, in_one_of, in_second, in_third, none_in_nil}

abbrev pub way_of : Ways → EdgeKind → Option ℕ
way_of w edge.Next = w.next
way_of w edge.Taken = w.taken
way_of w edge.Call = w.call
way_of w edge.Return = None
way_of w edge.Over = w.over

pub edges_listed : ℕ → Ways → List Edge
edges_listed at w = edge_to at edge.Next w.next ++ edge_to at edge.Taken w.taken ++ edge_to at edge.Call w.call ++ edge_to at edge.Over w.over

-- the edges by an instruction are those of its ways
pub edges-ways : (i : Instr) (at : ℕ) → edges_by i at ≡ edges_listed at (ways_of i at)
unfolding edges_by ways_of edges_listed
edges-ways i at = by_kind (kind_of i)
  where
    branch : (way : Option Bool) (target : Option ℕ) → branch_edges at way (edge_to at edge.Taken target) ≡ edges_listed at (branch_ways way at target)
    branch None None = refl
    branch None (Some a) = refl
    branch (Some true) None = refl
    branch (Some true) (Some a) = refl
    branch (Some false) target = refl

    jump : (target : Option ℕ) → edge_to at edge.Taken target ≡ edges_listed at (ways_by kind.Jump None at target)
    jump None = refl
    jump (Some a) = refl

    call : (i : Instr) (target : Option ℕ) → target_of i at ≡ target → edges_of_kind kind.Call i at ≡ edges_listed at (ways_by kind.Call None at (target_of i at))
    call i None e = rw e refl
    call i (Some a) e = rw e refl

    by_kind : (k : Kind) → edges_of_kind k i at ≡ edges_listed at (ways_by k (single_edge_of i) at (target_of i at))
    by_kind kind.Branch = branch (single_edge_of i) (target_of i at)
    by_kind kind.Jump = jump (target_of i at)
    by_kind kind.Call = call i (target_of i at) refl
    by_kind kind.Return = refl
    by_kind kind.Indirect = refl
    by_kind kind.Stop = refl
    by_kind kind.Plain = refl
    by_kind kind.Mul = refl
    by_kind kind.Div = refl
    by_kind kind.Load = refl
    by_kind kind.Store = refl

of_edge : (at : ℕ) (kind : EdgeKind) (o : Option ℕ) (a : ℕ) → o ≡ Some a → Contains (edge_to at kind o) (edge_of at a kind)
of_edge at kind o a e = rw e (0, omega arith, refl)

in_edge : (at : ℕ) (kind k : EdgeKind) (o : Option ℕ) (a : ℕ) → Contains (edge_to at k o) (edge_of at a kind) → (kind ≡ k) × (o ≡ Some a)
in_edge at kind k None a h = absurd (none_in_nil _ h)
in_edge at kind k (Some b) a h = let e = in_one (edge_of at a kind) (edge_of at b k) h in (sym (ap (λ (x : Edge). x.kind) e), ap (λ (x : Edge). Some x.to) e)

-- an edge of a kind is listed where there is a way of this kind
pub listed_way : (at : ℕ) (w : Ways) (kind : EdgeKind) (a : ℕ) → way_of w kind ≡ Some a → Contains (edges_listed at w) (edge_of at a kind)
unfolding edges_listed
listed_way at w edge.Next a e = in_first (edge_to at edge.Next w.next) (edge_to at edge.Taken w.taken) (edge_to at edge.Call w.call) (edge_to at edge.Over w.over) _ (of_edge at edge.Next w.next a e)
listed_way at w edge.Taken a e = in_second (edge_to at edge.Next w.next) (edge_to at edge.Taken w.taken) (edge_to at edge.Call w.call) (edge_to at edge.Over w.over) _ (of_edge at edge.Taken w.taken a e)
listed_way at w edge.Call a e = in_third (edge_to at edge.Next w.next) (edge_to at edge.Taken w.taken) (edge_to at edge.Call w.call) (edge_to at edge.Over w.over) _ (of_edge at edge.Call w.call a e)
listed_way at w edge.Over a e = in_fourth (edge_to at edge.Next w.next) (edge_to at edge.Taken w.taken) (edge_to at edge.Call w.call) (edge_to at edge.Over w.over) _ (of_edge at edge.Over w.over a e)
listed_way at w edge.Return a e = absurd (cc)

pub way_listed : (at : ℕ) (w : Ways) (kind : EdgeKind) (a : ℕ) → Contains (edges_listed at w) (edge_of at a kind) → way_of w kind ≡ Some a
unfolding edges_listed
way_listed at w kind a h =
    elim (in_one_of (edge_to at edge.Next w.next) (edge_to at edge.Taken w.taken) (edge_to at edge.Call w.call) (edge_to at edge.Over w.over) _ h) [
      | inl ab ↦ elim ab [ inl x ↦ as_kind edge.Next (in_edge at kind edge.Next w.next a x) | inr x ↦ as_kind edge.Taken (in_edge at kind edge.Taken w.taken a x) ]
      | inr cd ↦ elim cd [ inl x ↦ as_kind edge.Call (in_edge at kind edge.Call w.call a x) | inr x ↦ as_kind edge.Over (in_edge at kind edge.Over w.over a x) ]
    ]
  where
    as_kind : (k : EdgeKind) → (kind ≡ k) × (way_of w k ≡ Some a) → way_of w kind ≡ Some a
    as_kind k (same, is) = ap (way_of w) same ∙ is

located_of : (addresses : List ℕ) (w : Ways) (x : Exits) → AreLocated addresses w x → (kind : EdgeKind) → IsLocated addresses (way_of w kind) (exit_of x kind)
located_of addresses w x l edge.Next = l.next
located_of addresses w x l edge.Taken = l.taken
located_of addresses w x l edge.Call = l.call
located_of addresses w x l edge.Return = refl
located_of addresses w x l edge.Over = l.over

-- what has a place is code
lacks_is : (code : Code) (table : Table) → IsTable code table → (at : ℕ) (kind : EdgeKind) (o p : Option ℕ) → IsLocated table.addresses.items o p → list_any (λ e. not (is_code code e.to)) (edge_to at kind o) ≡ lacks o p
lacks_is code table t at kind None p l = refl
lacks_is code table t at kind (Some a) None l = off (is_code code a) refl
  where
    off : (b : Bool) → is_code code a ≡ b → not (is_code code a) || false ≡ true
    off false e = rw e refl
    off true e = absurd (l (t.all a e))
lacks_is code table t at kind (Some a) (Some v) l = rw (ap (is_code code) (sym l.1) ∙ (t.each v l.0).is) refl

is_short-is : (code : Code) (table : Table) → IsTable code table → (at : ℕ) (w : Ways) (x : Exits) → AreLocated table.addresses.items w x → list_any (λ e. not (is_code code e.to)) (edges_listed at w) ≡ is_short w x
unfolding edges_listed
is_short-is code table t at w x l =
    rw (list_any-append, list_any-append, list_any-append, lacks_is code table t at edge.Next w.next x.next l.next, lacks_is code table t at edge.Taken w.taken x.taken l.taken, lacks_is code table t at edge.Call w.call x.call l.call, lacks_is code table t at edge.Over w.over x.over l.over)
    (or_assoc (lacks w.next x.next) (lacks w.taken x.taken) (lacks w.call x.call) (lacks w.over x.over))
  where
    or_assoc : (a b c d : Bool) → ((a || b) || c) || d ≡ a || b || c || d
    or_assoc true b c d = refl
    or_assoc false true c d = refl
    or_assoc false false true d = refl
    or_assoc false false false d = refl

-- whether a unit has a fault of its own, from what stands at its address and after it
parts_faulty : Bool → Option Instr → Bool → Option Instr → Bool → Bool
parts_faulty here first after slot leaves =
    ((here && is_none first) || (passes is_control_instr first && (after && is_none slot)))
    || passes is_indirect first || passes is_link_branch first || (passes is_control_instr first && passes is_control_instr slot)
    || leaves

faulty-parts : (code : Code) (at : ℕ) → is_faulty code at ≡ parts_faulty (is_code code at) (instr_at code at) (is_code code (at + 4)) (instr_at code (at + 4)) (leaves_code code at)
unfolding parts_faulty
faulty-parts code at = refl

-- what stands in a slot, by the same
SlotBy : Option Instr → Bool → Option Instr → Slot → Type 0
SlotBy first after s slot.Absent = passes is_control_instr first ≡ false
SlotBy first after s slot.OffCode = (passes is_control_instr first ≡ true) × (after ≡ false)
SlotBy first after s slot.Reserved = (passes is_control_instr first ≡ true) × (after ≡ true) × (s ≡ None)
SlotBy first after s (slot.Holds i) = (passes is_control_instr first ≡ true) × (after ≡ true) × (s ≡ Some i)

slot-by : (code : Code) (at : ℕ) (s : Slot) → SlotIs code at s → SlotBy (instr_at code at) (is_code code (at + 4)) (instr_at code (at + 4)) s
unfolding SlotBy
slot-by code at slot.Absent h = h
slot-by code at slot.OffCode h = h
slot-by code at slot.Reserved h = h
slot-by code at (slot.Holds i) h = h

parts_faulty-is : (first : Instr) (after : Bool) (s : Option Instr) (leaves : Bool) (slot : Slot) → SlotBy (Some first) after s slot → (is_off slot ≡ true → leaves ≡ true) → parts_faulty true (Some first) after s leaves ≡ is_faulty_by leaves first slot
unfolding parts_faulty SlotBy
parts_faulty-is first after s leaves slot.Absent h off = rw h (bools (is_indirect first) (is_link_branch first) leaves)
  where
    bools : (a b c : Bool) → ((((false || false) || a) || b) || false) || c ≡ ((c || a) || b) || false
    bools true true true = refl
    bools true true false = refl
    bools true false true = refl
    bools true false false = refl
    bools false true true = refl
    bools false true false = refl
    bools false false true = refl
    bools false false false = refl
parts_faulty-is first after s leaves slot.OffCode h off = rw (off refl) (or_true _)
  where
    or_true : (a : Bool) → a || true ≡ true
    or_true true = refl
    or_true false = refl
parts_faulty-is first after s leaves slot.Reserved h off = rw (h.0, h.1, h.2) (bools ((leaves || is_indirect first) || is_link_branch first))
  where
    bools : (a : Bool) → true ≡ a || true
    bools true = refl
    bools false = refl
parts_faulty-is first after s leaves (slot.Holds i) h off = rw (h.0, h.1, h.2) (bools (is_indirect first) (is_link_branch first) (is_control_instr i) leaves)
  where
    bools : (a b d c : Bool) → ((((false || false) || a) || b) || d) || c ≡ ((c || a) || b) || not (not d)
    bools true true true true = refl
    bools true true true false = refl
    bools true true false true = refl
    bools true true false false = refl
    bools true false true true = refl
    bools true false true false = refl
    bools true false false true = refl
    bools true false false false = refl
    bools false true true true = refl
    bools false true true false = refl
    bools false true false true = refl
    bools false true false false = refl
    bools false false true true = refl
    bools false false true false = refl
    bools false false false true = refl
    bools false false false false = refl

-- whether a unit leaves the code, from its slot and its edges
off_slot : (code : Code) (at : ℕ) (s : Slot) → SlotIs code at s → is_control_at code at && not (is_code code (at + 4)) ≡ is_off s
off_slot code at slot.Absent h = rw h refl
off_slot code at slot.OffCode h = rw (h.0, h.1) refl
off_slot code at slot.Reserved h = rw (h.0, h.1) refl
off_slot code at (slot.Holds i) h = rw (h.0, h.1) refl

leaves-by : (code : Code) (table : Table) → IsTable code table → (at : ℕ) (first : Instr) (s : Slot) (x : Exits) → instr_at code at ≡ Some first → SlotIs code at s → AreLocated table.addresses.items (ways_of first at) x → leaves_code code at ≡ leaves_by s (ways_of first at) x
leaves-by code table t at first s x e is l =
    both (off_slot code at s is)
    (ap (λ (o : Option Instr). list_any (λ (d : Edge). not (is_code code d.to)) (edges_if o at)) e ∙ ap (λ (es : List Edge). list_any (λ (d : Edge). not (is_code code d.to)) es) (edges-ways first at) ∙ is_short-is code table t at (ways_of first at) x l)
  where
    both : {a b c d : Bool} → a ≡ b → c ≡ d → a || c ≡ b || d
    both p q = rw (p, q) refl

-- a unit without a fault of its own leads to what its ways name
led_by : (code : Code) (table : Table) → IsTable code table → (at : ℕ) (first : Instr) (w : Ways) (x : Exits) → instr_at code at ≡ Some first → w ≡ ways_of first at → is_faulty code at ≡ false → is_short w x ≡ false → AreLocated table.addresses.items w x → IsLed code table.addresses.items at x
unfolding leads_from
led_by code table t at first w x e is sound short l = record {
  sound = λ kind v leads. here kind v (way_of w kind) refl (located_of table.addresses.items w x l kind) leads;
  whole = λ kind a leads. there kind a (way_listed at w kind a (subst (λ (es : List Edge). Contains es (edge_of at a kind)) edges leads));
}
  where
    edges : leads_from code at ≡ edges_listed at w
    edges = rw (sound, e, is) (edges-ways first at)

    here : (kind : EdgeKind) (v : ℕ) (o : Option ℕ) → way_of w kind ≡ o → IsLocated table.addresses.items o (exit_of x kind) → exit_of x kind ≡ Some v → (v < length table.addresses.items) × Leads code (edge_of at (get_or table.addresses.items v 0) kind)
    here kind v None w_is located leads = absurd (cc)
    here kind v (Some a) w_is located leads =
        let found : IsFound table.addresses.items a (Some v) = subst (λ (o : Option ℕ). IsFound table.addresses.items a o) leads located in
        (found.0, subst (λ (n : ℕ). Leads code (edge_of at n kind)) (sym found.1) (subst (λ (es : List Edge). Contains es (edge_of at a kind)) (sym edges) (listed_way at w kind a w_is)))

    found_exit : (kind : EdgeKind) (o p : Option ℕ) (a : ℕ) → o ≡ Some a → lacks o p ≡ false → IsLocated table.addresses.items o p → (v : ℕ) × (p ≡ Some v) × (v < length table.addresses.items) × (get_or table.addresses.items v 0 ≡ a)
    found_exit kind None p a e full located = absurd (cc)
    found_exit kind (Some b) None a e full located = absurd (cc)
    found_exit kind (Some b) (Some v) a e full located = let same : b ≡ a = cc in (v, refl, located.0, located.1 ∙ same)

    first_full : (a b c d : Bool) → a || b || c || d ≡ false → (a ≡ false) × (b ≡ false) × (c ≡ false) × (d ≡ false)
    first_full true b c d h = absurd (cc)
    first_full false true c d h = absurd (cc)
    first_full false false true d h = absurd (cc)
    first_full false false false d h = (refl, refl, refl, h)

    there : (kind : EdgeKind) (a : ℕ) → way_of w kind ≡ Some a → (v : ℕ) × (exit_of x kind ≡ Some v) × (v < length table.addresses.items) × (get_or table.addresses.items v 0 ≡ a)
    there edge.Next a is = found_exit edge.Next w.next x.next a is (first_full (lacks w.next x.next) (lacks w.taken x.taken) (lacks w.call x.call) (lacks w.over x.over) short).0 l.next
    there edge.Taken a is = found_exit edge.Taken w.taken x.taken a is (first_full (lacks w.next x.next) (lacks w.taken x.taken) (lacks w.call x.call) (lacks w.over x.over) short).1 l.taken
    there edge.Call a is = found_exit edge.Call w.call x.call a is (first_full (lacks w.next x.next) (lacks w.taken x.taken) (lacks w.call x.call) (lacks w.over x.over) short).2 l.call
    there edge.Over a is = found_exit edge.Over w.over x.over a is (first_full (lacks w.next x.next) (lacks w.taken x.taken) (lacks w.call x.call) (lacks w.over x.over) short).3 l.over
    there edge.Return a is = absurd (cc)

-- one with a fault leads nowhere
led_nowhere : (code : Code) (addresses : List ℕ) (at : ℕ) → is_faulty code at ≡ true → IsLed code addresses at no_exits
unfolding leads_from
led_nowhere code addresses at faulty = record {
  sound = λ kind v leads. absurd (none kind v leads);
  whole = λ kind a leads. absurd (none_in_nil _ (subst (λ (b : Bool). Contains (if b then [] else own_edges code at) (edge_of at a kind)) faulty leads));
}
  where
    none : (kind : EdgeKind) (v : ℕ) → exit_of no_exits kind ≡ Some v → ⊥
    none edge.Next v e = cc
    none edge.Taken v e = cc
    none edge.Call v e = cc
    none edge.Return v e = cc
    none edge.Over v e = cc

pub site_is : (code : Code) (table : Table) → IsTable code table → (at : ℕ) (first : Instr) (s : Slot) (w : Ways) (x exits : Exits) (leaves faulty : Bool) → is_code code at ≡ true → instr_at code at ≡ Some first → SlotIs code at s → w ≡ ways_of first at → AreLocated table.addresses.items w x → leaves ≡ leaves_by s w x → faulty ≡ is_faulty_by leaves first s → exits ≡ (if faulty then no_exits else x) → IsSite code table.addresses.items (record { at = at; first = Some first; slot = s; leaves = leaves; exits = exits })
site_is code table t at first s w x exits leaves faulty is e slot ways l lv f ex = record {
  is = is;
  first = e;
  slot = slot;
  leaves = leaves_is;
  led = by_cases faulty f ex;
}
  where
    leaves_is : leaves_code code at ≡ leaves
    leaves_is = leaves-by code table t at first s x e slot (subst (λ (v : Ways). AreLocated table.addresses.items v x) ways l) ∙ ap (λ (v : Ways). leaves_by s v x) (sym ways) ∙ sym lv

    parts_same : is_code code at ≡ true → instr_at code at ≡ Some first → leaves_code code at ≡ leaves → parts_faulty (is_code code at) (instr_at code at) (is_code code (at + 4)) (instr_at code (at + 4)) (leaves_code code at) ≡ parts_faulty true (Some first) (is_code code (at + 4)) (instr_at code (at + 4)) leaves
    parts_same p q r = cc

    off_leaves : (a b : Bool) → a ≡ true → a || b ≡ true
    off_leaves a b h = rw h refl

    faulty_is : is_faulty code at ≡ is_faulty_by leaves first s
    faulty_is =
        faulty-parts code at
        ∙ parts_same is e leaves_is
        ∙ parts_faulty-is first (is_code code (at + 4)) (instr_at code (at + 4)) leaves s (subst (λ (o : Option Instr). SlotBy o (is_code code (at + 4)) (instr_at code (at + 4)) s) e (slot-by code at s slot)) (λ off. lv ∙ off_leaves (is_off s) (is_short w x) off)

    not_short : (a b : Bool) → a || b ≡ false → b ≡ false
    not_short true b h = absurd (cc)
    not_short false b h = h

    leaves_first : (a b c d : Bool) → ((a || b) || c) || d ≡ false → a ≡ false
    leaves_first true b c d h = absurd (cc)
    leaves_first false b c d h = refl

    by_cases : (b : Bool) → b ≡ is_faulty_by leaves first s → exits ≡ (if b then no_exits else x) → IsLed code table.addresses.items at exits
    by_cases true f ex = subst (λ (y : Exits). IsLed code table.addresses.items at y) (sym ex) (led_nowhere code table.addresses.items at (faulty_is ∙ sym f))
    by_cases false f ex =
        subst (λ (y : Exits). IsLed code table.addresses.items at y) (sym ex)
        (led_by code table t at first w x e ways (faulty_is ∙ sym f) (not_short (is_off s) (is_short w x) (sym lv ∙ leaves_first leaves (is_indirect first) (is_link_branch first) (not (is_plain_slot s)) (sym f))) l)

reserved_parts : (after : Bool) (s : Option Instr) (leaves : Bool) → parts_faulty true None after s leaves ≡ true
unfolding parts_faulty
reserved_parts after s leaves = refl

-- one whose word is reserved
pub reserved_site : (code : Code) (table : Table) → IsTable code table → (at : ℕ) → is_code code at ≡ true → instr_at code at ≡ None → IsSite code table.addresses.items (record { at = at; first = None; slot = slot.Absent; leaves = false; exits = no_exits })
reserved_site code table t at is e = record {
  is = is;
  first = e;
  slot = ap (passes is_control_instr) e;
  leaves = ap (λ (o : Option Instr). (passes is_control_instr o && not (is_code code (at + 4))) || list_any (λ (d : Edge). not (is_code code d.to)) (edges_if o at)) e;
  led = led_nowhere code table.addresses.items at (faulty-parts code at ∙ parts_same is e ∙ reserved_parts (is_code code (at + 4)) (instr_at code (at + 4)) (leaves_code code at));
}
  where
    parts_same : is_code code at ≡ true → instr_at code at ≡ None → parts_faulty (is_code code at) (instr_at code at) (is_code code (at + 4)) (instr_at code (at + 4)) (leaves_code code at) ≡ parts_faulty true None (is_code code (at + 4)) (instr_at code (at + 4)) (leaves_code code at)
    parts_same p q = cc

-- the first sites of a table, and one more
pub one_more_site : (table : Table) (count : ℕ) (sites more : List Site) (site : Site) → IsSiteOf table count site → more ≡ sites ++ site ∷ [] → AreSitesOf table count sites → AreSitesOf table (count + 1) more
one_more_site table count sites more site is e s = record {
  beside = rw e (length_push sites site ∙ ap (λ (n : ℕ). n + 1) s.beside);
  each = λ k below. rw e (at k below);
}
  where
    at : (k : ℕ) → k < count + 1 → IsSiteOf table k (site_of (sites ++ site ∷ []) k)
    at k below = elim (cases_lt k count) [
      | inl before ↦ subst (λ (x : Site). IsSiteOf table k x) (sym (get_or_append_left sites (site ∷ []) no_site k (omega (arith, before, s.beside)))) (s.each k before)
      | inr after ↦ let same : k ≡ length sites = omega (arith, after, below, s.beside) in
          subst (λ (x : Site). IsSiteOf table k x) (sym (get_or_push sites site no_site k (sym same))) (subst (λ (n : ℕ). IsSiteOf table n site) (omega (arith, after, below)) is)
    ]

pub reserved_site_at : (table : Table) (place at : ℕ) (o : Option Instr) → place < length table.addresses.items → at ≡ get_or table.addresses.items place at → o ≡ get_or table.instrs.items place o → o ≡ None → IsSiteOf table place (record { at = at; first = None; slot = slot.Absent; leaves = false; exits = no_exits })
reserved_site_at table place at o within a i none =
    let address : at ≡ get_or table.addresses.items place 0 = a ∙ get_or_default table.addresses.items place at 0 within in
    (address, λ code t. reserved code t address)
  where
    instr : get_or table.instrs.items place None ≡ None
    instr = subst (λ (d : Option Instr). get_or table.instrs.items place d ≡ d) none (sym i)

    reserved : (code : Code) → IsTable code table → at ≡ get_or table.addresses.items place 0 → IsSite code table.addresses.items (record { at = at; first = None; slot = slot.Absent; leaves = false; exits = no_exits })
    reserved code t address =
        let line = t.each place within in
        reserved_site code table t at (ap (is_code code) address ∙ line.is) (ap (instr_at code) address ∙ line.instr ∙ instr)
