-- The units that others lead to.
use Rattle.std.proofs.Common.{◌≡◌, ◌∙◌, refl, sym, ap, subst, ℕ, ℤ, pos, ◌+◌, ◌<◌, ◌≤◌, Bool, true, false, arith, List, ◌⊎◌, inl, inr, Option, Some, None, length, get_or}
use Rattle.std.specs.Prelude.{Contains, ◌&&◌, not, slice_index, ◌==◌, is_some, if◌then◌else◌}
use Rattle.std.specs.Ordering.{int_eq}
use Rattle.std.proofs.lemmas.Bool.{cases_eq, cases_lt, eq-eqb}
use Rattle.std.proofs.lemmas.List.{length-map, get_or_default}
use Rattle.std.proofs.lemmas.List.Elements.{Contains-get_or}
use Rattle.std.proofs.Math.ListN.{get_or-eq_default}
use Rattle.visa_io.specs.declared.records.Code.{Code}
use Rattle.mips_isa.specs.Words.{extended_half, signed}
use Rattle.mips_isa.specs.declared.instr.Instr.{Instr}
use Rattle.flow_graph.specs.Code.{instr_at, is_control_instr, is_control_at, passes}
use Rattle.flow_graph.specs.Flow.{ComesBefore, Flow, HasShape, IsGraph, IsUnit}
use Rattle.flow_graph.specs.Reached.{is_inner}
use Rattle.flow_graph.specs.declared.parts.Edge.{Edge}
use Rattle.flow_graph.specs.declared.parts.EdgeKind.{EdgeKind}
use Rattle.flow_graph.specs.declared.parts.EdgeKind.TheVariants.{Next, Taken, Call, Return, Over}
use Rattle.flow_graph.specs.declared.parts.Unit.{Unit as FlowUnit}
use Rattle.flow_graph.proofs.OwnFaults.{word_cases, word_here, word_slot}
use Rattle.flow_graph.proofs.Recorded.{reached_unit}
use Rattle.loop_regions.specs.Walks.{holds}
use Rattle.range_facts.proofs.Sets.{eq_holds}
use Rattle.run_law.specs.Counts.{step_by}
use Rattle.run_law.specs.Program.{IsQuiet, Steps}
use Rattle.run_law.proofs.Rules.{step_is}
use Rattle.bound_checker.specs.Gone.{is_return}
use Rattle.bound_checker.specs.Lines.{addresses_of}
use Rattle.bound_checker.specs.Room.{Adds, IsRoom, found_at, seen_at}
use Rattle.bound_checker.specs.Search.{AreFromRising, EndsAt, IsAllowed, IsFirstFrom, IsLed, IsSpread, LeadsTo, allows}
use Rattle.bound_checker.specs.Search.IsLed.{Goes, Stays}
use Rattle.bound_checker.specs.Tally.{address_at, is_quiet, is_quiet_slot, is_step}
use Rattle.bound_checker.specs.declared.room.Room.{Room}
use Rattle.bound_checker.specs.declared.search.Scope.{Scope}
use Rattle.bound_checker.specs.declared.search.Scope.TheVariants.{Quiet, Called}
use Rattle.bound_checker.proofs.Calls.{flows, plain_task}
use Rattle.bound_checker.proofs.Checking.{leads_on, number_within}
use Rattle.bound_checker.proofs.Edges.{place_is}
use Rattle.bound_checker.proofs.Recorded.{address_is, numbered_unit, slot_stands}
use Rattle.bound_checker.proofs.Rooms.{adds_both, adds_none, adds_same}

true_false : {P : Type 0} → true ≡ false → P
true_false e = absurd (let b : ⊥ = cc in b)

and_both : (a b : Bool) → a && b ≡ true → (a ≡ true) × (b ≡ true)
and_both true true e = (refl, refl)
and_both true false e = true_false (sym e)
and_both false b e = true_false (sym e)

both_and : (a b : Bool) → a ≡ true → b ≡ true → a && b ≡ true
both_and a b p q = rw (p, q) refl

not_not : (b : Bool) → not b ≡ true → b ≡ false
not_not true e = true_false (sym e)
not_not false e = refl

is_not : (b : Bool) → (b ≡ true → ⊥) → not b ≡ true
is_not true h = absurd (h refl)
is_not false h = refl

abbrev is_some_step : Option ℤ → Bool
is_some_step o = is_some o

abbrev step_if : Bool → ℤ → Option ℤ
step_if b z = if b then Some z else None

-- steps
some_steps : (c : ℕ) (i : Instr) → is_step c i ≡ true → Steps c i
some_steps c i is = by_step (step_by c i) refl is
  where
    other : (z : ℤ) → int_eq z (pos 0) ≡ false → z ≡ pos 0 → ⊥
    other z differs same = true_false (sym (ap (λ w. int_eq w (pos 0)) same) ∙ differs)

    by_step : (o : Option ℤ) → step_by c i ≡ o → is_some_step o ≡ true → Steps c i
    by_step None e is = true_false (sym is)
    by_step (Some by) e is =
        let a = step_is c i by e in
        record { imm = a.imm; is = a.is; some = λ zero_is. other by a.some (sym a.value ∙ zero_is) }

steps_some : (c : ℕ) (i : Instr) → Steps c i → is_step c i ≡ true
steps_some c i s = ap (is_step c) s.is ∙ ap (λ b. is_some_step (step_if b (signed (extended_half s.imm)))) (both_and (c == c) ((c == c) && not (int_eq (signed (extended_half s.imm)) (pos 0))) (eq-eqb c c refl) (both_and (c == c) (not (int_eq (signed (extended_half s.imm)) (pos 0))) (eq-eqb c c refl) (apart (signed (extended_half s.imm)) s.some)))
  where
    apart : (z : ℤ) → (z ≡ pos 0 → ⊥) → not (int_eq z (pos 0)) ≡ true
    apart z other = is_not (int_eq z (pos 0)) (λ e. other (eq_holds z (pos 0) e))

-- units without a step
same_instr : (a b : Instr) → Some a ≡ Some b → a ≡ b
same_instr a b e = cc

no_slot : (s : Instr) → None ≡ Some s → ⊥
no_slot s e = cc

pub control_of : (code : Code) (entry : ℕ) (unit : FlowUnit) → IsUnit code entry unit → (s : Instr) → unit.slot ≡ Some s → is_control_instr unit.first ≡ true
control_of code entry unit is s slot = by_control (is_control_instr unit.first) is.shape
  where
    by_control : (b : Bool) → HasShape code unit b → b ≡ true
    by_control true shape = refl
    by_control false shape = absurd (no_slot s (sym shape.0 ∙ slot))

pub control_at : (code : Code) (entry : ℕ) (unit : FlowUnit) → IsUnit code entry unit → is_control_at code unit.at ≡ is_control_instr unit.first
control_at code entry unit is = ap (passes is_control_instr) is.first

pub quiet_is : (code : Code) (entry c : ℕ) (unit : FlowUnit) → IsUnit code entry unit → is_quiet c unit ≡ true → IsQuiet code c unit.at
quiet_is code entry c unit is quiet at i word stands steps =
    let two = and_both (not (is_step c unit.first)) (is_quiet_slot c unit.slot) quiet in
    elim (word_cases code unit.at at word) [
      | inl here ↦
          let same : unit.first ≡ i = same_instr unit.first i (sym is.first ∙ ap (instr_at code) (sym here) ∙ stands) in
          true_false (sym (steps_some c i steps) ∙ ap (is_step c) (sym same) ∙ not_not (is_step c unit.first) two.0)
      | inr (control, there) ↦
          let slot : unit.slot ≡ Some i = sym (slot_stands code entry unit is (sym (control_at code entry unit is) ∙ control)) ∙ ap (instr_at code) (sym there) ∙ stands in
          true_false (sym (steps_some c i steps) ∙ not_not (is_step c i) (ap (is_quiet_slot c) (sym slot) ∙ two.1))
    ]

pub is_quiet_of : (code : Code) (entry c : ℕ) (unit : FlowUnit) → IsUnit code entry unit → IsQuiet code c unit.at → is_quiet c unit ≡ true
is_quiet_of code entry c unit is quiet =
    both_and (not (is_step c unit.first)) (is_quiet_slot c unit.slot) (is_not (is_step c unit.first) (λ s. quiet unit.at unit.first (word_here code unit.at) is.first (some_steps c unit.first s))) (by_slot unit.slot refl)
  where
    by_slot : (o : Option Instr) → unit.slot ≡ o → is_quiet_slot c o ≡ true
    by_slot None e = refl
    by_slot (Some s) e =
        let control = control_of code entry unit is s e in
        is_not (is_step c s) (λ step. quiet (unit.at + 4) s (word_slot code unit.at (control_at code entry unit is ∙ control)) (slot_stands code entry unit is control ∙ e) (some_steps c s step))

-- edges along which units are looked for
pub allowed_is : (code : Code) (entry : ℕ) (scope : Scope) (unit : FlowUnit) (e : Edge) → IsUnit code entry unit → unit.at ≡ e.from → allows scope unit e ≡ true → IsAllowed code scope e
allowed_is code entry (Quiet r) unit e is at h =
    let three = and_both ((is_inner e.kind && holds r e.from) && holds r e.to) (is_quiet r.counter unit) h in
    let two = and_both (is_inner e.kind && holds r e.from) (holds r e.to) three.0 in
    let one = and_both (is_inner e.kind) (holds r e.from) two.0 in
    record { inner = one.0; inside_from = one.1; inside_to = two.1; quiet = subst (λ u. IsQuiet code r.counter u) at (quiet_is code entry r.counter unit is three.1) }
allowed_is code entry Called unit e is at h = not_not (is_return e.kind) h

pub is_allowed : (code : Code) (entry : ℕ) (scope : Scope) (unit : FlowUnit) (e : Edge) → IsUnit code entry unit → unit.at ≡ e.from → IsAllowed code scope e → allows scope unit e ≡ true
is_allowed code entry (Quiet r) unit e is at a =
    both_and ((is_inner e.kind && holds r e.from) && holds r e.to) (is_quiet r.counter unit)
    (both_and (is_inner e.kind && holds r e.from) (holds r e.to) (both_and (is_inner e.kind) (holds r e.from) a.inner a.inside_from) a.inside_to)
    (is_quiet_of code entry r.counter unit is (subst (λ u. IsQuiet code r.counter u) (sym at) a.quiet))
is_allowed code entry Called unit e is at a = ap not a

inner_no_return : (k : EdgeKind) → is_inner k ≡ true → is_return k ≡ false
inner_no_return Next e = refl
inner_no_return Taken e = refl
inner_no_return Over e = refl
inner_no_return Call e = refl
inner_no_return Return e = true_false (sym e)

pub no_return : (code : Code) (scope : Scope) (e : Edge) → IsAllowed code scope e → is_return e.kind ≡ false
no_return code (Quiet r) e a = inner_no_return e.kind a.inner
no_return code Called e a = a

-- they lead to units
pub leads_among : (code : Code) (g : Flow) (e : Edge) → IsGraph code g.entry g → Contains g.edges e → is_return e.kind ≡ false → Contains (addresses_of g) e.to
unfolding plain_task
leads_among code g e graph among back =
    let l = leads_on code g e graph among back in
    reached_unit code g.entry g e.to graph ((flows code g graph).also e l.0 l.1)

pub units_long : (g : Flow) → length (addresses_of g) ≡ length g.units
units_long g = length-map g.units (λ (u : FlowUnit). u.at)

-- numbers of units are told by their addresses
pub same_number : (g : Flow) (code : Code) (i j : ℕ) → IsGraph code g.entry g → i < length g.units → j < length g.units → address_at g i ≡ address_at g j → i ≡ j
same_number g code i j graph below under same =
    sym (place_is (addresses_of g) i (address_at g j) graph.units_rise (omega (arith, units_long g, below)) same) ∙ place_is (addresses_of g) j (address_at g j) graph.units_rise (omega (arith, units_long g, under)) refl

-- one edge
pub edge_passed : (code : Code) (g : Flow) (scope : Scope) (e : Edge) (number : ℕ) (a b : Room) → IsGraph code g.entry g → IsAllowed code scope e → number < length (addresses_of g) → slice_index (addresses_of g) number ≡ e.to
    → Adds (λ j. j ≡ number) a b → Adds (EndsAt code g scope e) a b
edge_passed code g scope e number a b graph allowed within at adds =
    adds_same (λ j. j ≡ number) (EndsAt code g scope e) a b
    (λ j ends. same_number g code j number graph ends.within (number_within g number within) (ends.at ∙ sym at))
    (λ j same. subst (EndsAt code g scope e) (sym same) (record { within = number_within g number within; at = at; allowed = allowed }))
    adds

pub edge_not_passed : (code : Code) (g : Flow) (scope : Scope) (unit : FlowUnit) (e : Edge) (a : Room) → IsUnit code g.entry unit → unit.at ≡ e.from → allows scope unit e ≡ false → Adds (EndsAt code g scope e) a a
edge_not_passed code g scope unit e a is at none = adds_none (EndsAt code g scope e) a (λ j ends. true_false (sym (is_allowed code g.entry scope unit e is at ends.allowed) ∙ none))

-- the unit that an edge leaves
pub leaving_unit : (code : Code) (g : Flow) (k : ℕ) (unit : FlowUnit) (e : Edge) → IsGraph code g.entry g → k < length g.units → ((d : FlowUnit) → get_or g.units k d ≡ unit) → address_at g k ≡ e.from → IsUnit code g.entry unit × (unit.at ≡ e.from)
leaving_unit code g k unit e graph within is at = (numbered_unit code g k unit unit graph within (is unit), sym (address_is g.units k unit unit within (is unit)) ∙ at)

pub target_among : (code : Code) (g : Flow) (scope : Scope) (k : ℕ) (unit : FlowUnit) (e : Edge) (addresses : List ℕ) → IsGraph code g.entry g → k < length g.units → ((d : FlowUnit) → get_or g.units k d ≡ unit) → address_at g k ≡ e.from → Contains g.edges e
    → addresses ≡ addresses_of g → allows scope unit e ≡ true → Contains addresses e.to
target_among code g scope k unit e addresses graph within is at among same h =
    let u = leaving_unit code g k unit e graph within is at in
    subst (λ l. Contains l e.to) (sym same) (leads_among code g e graph among (no_return code scope e (allowed_is code g.entry scope unit e u.0 u.1 h)))

pub edge_found : (code : Code) (g : Flow) (scope : Scope) (k : ℕ) (unit : FlowUnit) (e : Edge) (number : ℕ) (addresses : List ℕ) (a b : Room) → IsGraph code g.entry g → k < length g.units → ((d : FlowUnit) → get_or g.units k d ≡ unit) → address_at g k ≡ e.from
    → addresses ≡ addresses_of g → allows scope unit e ≡ true → number < length addresses → slice_index addresses number ≡ e.to → Adds (λ j. j ≡ number) a b → Adds (EndsAt code g scope e) a b
edge_found code g scope k unit e number addresses a b graph within is at same h inside to adds =
    let u = leaving_unit code g k unit e graph within is at in
    edge_passed code g scope e number a b graph (allowed_is code g.entry scope unit e u.0 u.1 h) (subst (λ l. number < length l) same inside) (sym (ap (λ l. slice_index l number) same) ∙ to) adds

pub edge_left : (code : Code) (g : Flow) (scope : Scope) (k : ℕ) (unit : FlowUnit) (e : Edge) (a : Room) → IsGraph code g.entry g → k < length g.units → ((d : FlowUnit) → get_or g.units k d ≡ unit) → address_at g k ≡ e.from → allows scope unit e ≡ false
    → Adds (EndsAt code g scope e) a a
edge_left code g scope k unit e a graph within is at none =
    let u = leaving_unit code g k unit e graph within is at in
    edge_not_passed code g scope unit e a u.0 u.1 none

-- the edges of a unit
pub from_rise : (code : Code) (g : Flow) → IsGraph code g.entry g → AreFromRising g.edges
from_rise code g graph i j d low below = elim (cases_eq i j) [
  | inl same ↦ rw same (omega arith)
  | inr other ↦ before (get_or g.edges i d) (get_or g.edges j d) (graph.edges_rise i j d (omega (arith, low, other)) below)
]
  where
    before : (a b : Edge) → ComesBefore a b → a.from ≤ b.from
    before a b (inl less) = omega (arith, less)
    before a b (inr same) = omega (arith, same.0)

-- of the edges from a place on
pub record LeadsFrom (code : Code) (g : Flow) (scope : Scope) (d : Edge) (lo hi j : ℕ) : Type 0 where
  pub i : ℕ
  pub from : lo ≤ i
  pub below : i < hi
  pub ends : EndsAt code g scope (get_or g.edges i d) j

pub more_edges : (code : Code) (g : Flow) (scope : Scope) (d e : Edge) (lo i : ℕ) (a b c : Room) → lo ≤ i → e ≡ get_or g.edges i d → Adds (LeadsFrom code g scope d lo i) a b → Adds (EndsAt code g scope e) b c → Adds (LeadsFrom code g scope d lo (i + 1)) a c
more_edges code g scope d e lo i a b c low is p q =
    adds_both (LeadsFrom code g scope d lo i) (EndsAt code g scope e) (LeadsFrom code g scope d lo (i + 1)) a b c split
    (λ j l. record { i = l.i; from = l.from; below = omega (arith, l.below); ends = l.ends })
    (λ j ends. record { i = i; from = low; below = omega arith; ends = subst (λ x. EndsAt code g scope x j) is ends })
    p q
  where
    split : (j : ℕ) → LeadsFrom code g scope d lo (i + 1) j → LeadsFrom code g scope d lo i j ⊎ EndsAt code g scope e j
    split j l = elim (cases_eq l.i i) [
      | inl same ↦ inr (subst (λ x. EndsAt code g scope x j) (ap (λ n. get_or g.edges n d) same ∙ sym is) l.ends)
      | inr other ↦ inl (record { i = l.i; from = l.from; below = omega (arith, l.below, other); ends = l.ends })
    ]

pub all_edges : (code : Code) (g : Flow) (scope : Scope) (d : Edge) (k lo hi : ℕ) (a b : Room) → IsFirstFrom g.edges (address_at g k) lo → IsFirstFrom g.edges (address_at g k + 1) hi → Adds (LeadsFrom code g scope d lo hi) a b → Adds (LeadsTo code g scope k) a b
all_edges code g scope d k lo hi a b first last adds =
    adds_same (LeadsFrom code g scope d lo hi) (LeadsTo code g scope k) a b back on adds
  where
    back : (j : ℕ) → LeadsTo code g scope k j → LeadsFrom code g scope d lo hi j
    back j l =
        let (i, below, is) = l.among in
        let here : get_or g.edges i d ≡ l.edge = get_or_default g.edges i d l.edge below ∙ is in
        let from : (get_or g.edges i d).from ≡ address_at g k = ap (λ (e : Edge). e.from) here ∙ l.from in
        record {
          i = i;
          from = elim (cases_lt i lo) [ inl early ↦ absurd (omega (arith, first.earlier i d early, from)) | inr late ↦ late ];
          below = elim (cases_lt i hi) [ inl early ↦ early | inr late ↦ absurd (omega (arith, last.later i d late below, from)) ];
          ends = subst (λ x. EndsAt code g scope x j) (sym here) l.ends;
        }

    on : (j : ℕ) → LeadsFrom code g scope d lo hi j → LeadsTo code g scope k j
    on j l =
        let below : l.i < length g.edges = omega (arith, l.below, last.within) in
        record {
          edge = get_or g.edges l.i d;
          among = Contains-get_or g.edges l.i d below;
          from = omega (arith, first.later l.i d l.from below, last.earlier l.i d l.below);
          ends = l.ends;
        }

-- all units that are led to
pub record IsSpreading (code : Code) (g : Flow) (scope : Scope) (done : ℕ) (old room : Room) : Type 0 where
  pub room_is : IsRoom (length g.units) room
  pub order : done ≤ room.count
  pub kept : (j : ℕ) → seen_at old j ≡ true → seen_at room j ≡ true
  pub passed : (i j : ℕ) → i < done → LeadsTo code g scope (found_at room i) j → seen_at room j ≡ true
  pub only : (j : ℕ) → seen_at room j ≡ true → (k : ℕ) × (seen_at old k ≡ true) × IsLed code g scope k j

pub spread_none : (code : Code) (g : Flow) (scope : Scope) (room : Room) → IsRoom (length g.units) room → IsSpreading code g scope 0 room room
spread_none code g scope room is = record { room_is = is; order = omega arith; kept = λ j h. h; passed = λ i j below leads. absurd (omega (arith, below)); only = λ j h. (j, h, Stays) }

pub spread_more : (code : Code) (g : Flow) (scope : Scope) (done k : ℕ) (old room new : Room) → IsSpreading code g scope done old room → done < room.count → k ≡ found_at room done → IsRoom (length g.units) new → Adds (LeadsTo code g scope k) room new
    → IsSpreading code g scope (done + 1) old new
spread_more code g scope done k old room new s below is next adds = record {
  room_is = next;
  order = omega (arith, below, adds.more);
  kept = λ j h. adds.kept j (s.kept j h);
  passed = λ i j lt leads. elim (cases_eq i done) [
    | inl same ↦ adds.whole j (subst (λ n. LeadsTo code g scope n j) (adds.front i (omega (arith, lt, below)) ∙ ap (found_at room) same ∙ sym is) leads)
    | inr other ↦ adds.kept j (s.passed i j (omega (arith, lt, other)) (subst (λ n. LeadsTo code g scope n j) (adds.front i (omega (arith, lt, below))) leads))
  ];
  only = λ j h. elim (adds.only j h) [
    | inl before ↦ s.only j before
    | inr leads ↦ let (start, seen, led) = s.only k (subst (λ n. seen_at room n ≡ true) (sym is) (s.room_is.marked done below)) in (start, seen, Goes k j led leads)
  ];
}

pub spread_all : (code : Code) (g : Flow) (scope : Scope) (done : ℕ) (old room : Room) → IsSpreading code g scope done old room → room.count ≤ done → IsSpread code g scope old room
spread_all code g scope done old room s over = record {
  kept = s.kept;
  closed = λ k j h leads. let (i, below, at) = s.room_is.listed k h in s.passed i j (omega (arith, below, over)) (subst (λ n. LeadsTo code g scope n j) (sym at) leads);
  only = s.only;
}

-- room for all
pub count_within : (units : ℕ) (room : Room) (i : ℕ) → IsRoom units room → i < room.count → found_at room i < units
count_within units room i is below = elim (cases_lt (found_at room i) units) [
  | inl within ↦ within
  | inr over ↦ true_false (sym (is.marked i below) ∙ get_or-eq_default room.seen.items false (omega (arith, over, is.sized.seen_long)))
]

-- an edge between the first edges of an address and of the next
pub edge_between : (g : Flow) (k a i lo hi : ℕ) (edges : List Edge) (unit : FlowUnit) (d : Edge) → k < length g.units → ((x : FlowUnit) → get_or g.units k x ≡ unit) → a ≡ unit.at → IsFirstFrom edges a lo → IsFirstFrom edges (a + 1) hi
    → lo ≤ i → i < hi → address_at g k ≡ (get_or edges i d).from
edge_between g k a i lo hi edges unit d within is at first last low below =
    let inside : i < length edges = omega (arith, below, last.within) in
    let there : address_at g k ≡ unit.at = address_is g.units k unit unit within (is unit) in
    omega (arith, there, at, first.later i d low inside, last.earlier i d below)

pub edge_listed : (g : Flow) (i hi b : ℕ) (edges : List Edge) (d : Edge) → edges ≡ g.edges → IsFirstFrom edges b hi → i < hi → Contains g.edges (get_or edges i d)
edge_listed g i hi b edges d same last below =
    subst (λ l. Contains l (get_or edges i d)) same (Contains-get_or edges i d (omega (arith, below, last.within)))

pub edge_at : (g : Flow) (i hi b : ℕ) (edges : List Edge) (e d : Edge) → edges ≡ g.edges → IsFirstFrom edges b hi → i < hi → get_or edges i e ≡ get_or g.edges i d
edge_at g i hi b edges e d same last below = get_or_default edges i e d (omega (arith, below, last.within)) ∙ ap (λ l. get_or l i d) same

pub edge_order : (edges : List Edge) (a lo hi : ℕ) → IsFirstFrom edges a lo → IsFirstFrom edges (a + 1) hi → lo ≤ hi
edge_order edges a lo hi first last = elim (cases_lt hi lo) [
  | inl less ↦ absurd (omega (arith, first.earlier hi none less, last.later hi none (omega arith) (omega (arith, less, first.within))))
  | inr order ↦ order
]
  where
    none : Edge
    none = record { from = 0; to = 0; kind = Next }

pub firsts_of : (g : Flow) (k a lo hi : ℕ) (edges : List Edge) (unit : FlowUnit) → edges ≡ g.edges → k < length g.units → ((d : FlowUnit) → get_or g.units k d ≡ unit) → a ≡ unit.at → IsFirstFrom edges a lo → IsFirstFrom edges (a + 1) hi
    → IsFirstFrom g.edges (address_at g k) lo × IsFirstFrom g.edges (address_at g k + 1) hi
firsts_of g k a lo hi edges unit same within is at first last =
    let there : address_at g k ≡ unit.at = address_is g.units k unit unit within (is unit) in
    let begin : a ≡ address_at g k = at ∙ sym there in
    (subst (λ l. IsFirstFrom l (address_at g k) lo) same (subst (λ n. IsFirstFrom edges n lo) begin first), subst (λ l. IsFirstFrom l (address_at g k + 1) hi) same (subst (λ n. IsFirstFrom edges (n + 1) hi) begin last))

pub not_more : (b : Bool) (m n : ℕ) → (m < n → b ≡ true) → b ≡ false → n ≤ m
not_more b m n h e = elim (cases_lt m n) [ inl less ↦ true_false (sym (h less) ∙ e) | inr over ↦ over ]
