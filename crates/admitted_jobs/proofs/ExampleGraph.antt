-- The example's graph.
use Rattle.std.proofs.Common.{◌≡◌, ◌∙◌, refl, sym, ap, subst, ℕ, zero, suc, ◌+◌, ◌<◌, Bool, true, false, List, [], ◌∷◌, arith, lit<, inl, inr}
use Rattle.std.specs.Prelude.{◌||◌, ◌==◌, is_none, Option, Some, None, slice_get, slice_index}
use Rattle.std.specs.List.{Contains}
use Rattle.std.proofs.lemmas.Bool.{and_parts, or_parts}
use Rattle.mips_isa.specs.Kinds.{kind_of}
use Rattle.mips_isa.specs.declared.instr.Instr.{Instr}
use Rattle.flow_graph.specs.Code.{instr_at, is_code, is_control_at, is_control_instr, word_from}
use Rattle.flow_graph.specs.Edges.{edge_of}
use Rattle.flow_graph.specs.Faults.{has_indirect, has_link_branch, has_reserved, has_slot_control, is_faulty, is_reserved, is_word_of, leads_from, leaves_code}
use Rattle.flow_graph.specs.Flow.{Flow, Has, HasShape, IsGraph, IsUnit, IsUnitsOf}
use Rattle.flow_graph.specs.Reached.{Begins, Calls, Chain, IsEdge, IsFunction, IsUnitOf, IsWay, Leads, Reached, is_any, is_inner}
use Rattle.flow_graph.specs.declared.fault.FlowFault.{FlowFault}
use Rattle.flow_graph.specs.declared.fault.FlowFault.TheVariants.{Reserved, Indirect, LinkBranch, SlotControl, SlotTarget, OffCode, Recursion, Deep, Memory}
use Rattle.flow_graph.specs.declared.parts.Edge.{Edge}
use Rattle.flow_graph.specs.declared.parts.EdgeKind.{EdgeKind}
use Rattle.flow_graph.specs.declared.parts.EdgeKind.TheVariants.{Next, Call}
use Rattle.flow_graph.specs.declared.parts.Unit.{Unit as FlowUnit}
use Rattle.run_law.specs.Instructions.{is_direct}
use Rattle.run_law.specs.Program.{Good}
use Rattle.run_law.proofs.Calling.{none_of, one_of}
use Rattle.run_law.proofs.Coded.{control_there, same_instr, words_of_unit}
use Rattle.run_law.proofs.Flows.{reached_along, reached_first}
use Rattle.admitted_jobs.proofs.ExampleCode.{at_0, at_4, at_8, back, code, leads_0, leads_4, nop, sound_0, sound_4}

abbrev pub unit_0 : FlowUnit
unit_0 = record { at = 0; length = 4; first = nop; slot = None }

abbrev pub unit_4 : FlowUnit
unit_4 = record { at = 4; length = 8; first = back; slot = Some nop }

abbrev pub flow : Flow
flow = record {
  entry = 0;
  units = unit_0 ∷ unit_4 ∷ [];
  edges = edge_of 0 4 Next ∷ [];
  functions = 0 ∷ [];
  function_units = (0 ∷ 4 ∷ []) ∷ [];
  blocks = 0 ∷ 4 ∷ [];
}

-- members of short lists by their places
pub one : {X : Type 0} (P : X → Type 0) (a : X) → P a → (x : X) → Contains (a ∷ []) x → P x
one P a pa x (zero, below, is) = subst P is pa
one P a pa x (suc k, below, is) = absurd (omega (arith, below))

pub two : {X : Type 0} (P : X → Type 0) (a b : X) → P a → P b → (x : X) → Contains (a ∷ b ∷ []) x → P x
two P a b pa pb x (zero, below, is) = subst P is pa
two P a b pa pb x (suc zero, below, is) = subst P is pb
two P a b pa pb x (suc (suc k), below, is) = absurd (omega (arith, below))

-- the cases of a unit
pub data UnitAt : ℕ → Type 0 where
  At0 : UnitAt 0
  At4 : UnitAt 4

next_0 : (e : Edge) → Contains (leads_from code 0) e → e ≡ edge_of 0 4 Next
next_0 e leads = one_of (edge_of 0 4 Next) e (subst (λ es. Contains es e) leads_0 leads)

pub next_4 : {P : Type 0} (e : Edge) → Contains (leads_from code 4) e → P
next_4 e leads = absurd (none_of e (subst (λ es. Contains es e) leads_4 leads))

-- the one edge
pub edge_at : (e : Edge) (u : ℕ) → UnitAt u → Contains (leads_from code u) e → e ≡ edge_of 0 4 Next
edge_at e _ At0 leads = next_0 e leads
edge_at e _ At4 leads = next_4 e leads

to_unit : (u v : ℕ) (kind : EdgeKind) → edge_of v u kind ≡ edge_of 0 4 Next → UnitAt u
to_unit u v kind is = subst (λ n. UnitAt n) (sym (ap (λ (e : Edge). e.to) is)) At4

pub way_units : (asked : EdgeKind → Bool) (u : ℕ) (us : List ℕ) → IsWay code asked 0 (u ∷ us) → UnitAt u
unfolding IsWay
way_units asked u [] way = subst (λ n. UnitAt n) (sym way.0) At0
way_units asked u (v ∷ us) way =
    let joins = way.0 in
    to_unit u v joins.kind (edge_at (edge_of v u joins.kind) v (way_units asked v us way.1) joins.leads)

pub units : (u : ℕ) → Reached code 0 u → UnitAt u
units u reached = way_units is_any u reached.us reached.way

pub leading : (e : Edge) → Reached code 0 e.from → Leads code e → e ≡ edge_of 0 4 Next
leading e reached leads = edge_at e e.from (units e.from reached) leads

pub no_call : (u f : ℕ) {P : Type 0} → edge_of u f Call ≡ edge_of 0 4 Next → P
no_call u f {P} is = let clash : Call ≡ Next = ap (λ (e : Edge). e.kind) is in cc

pub functions : (f : ℕ) → IsFunction code 0 f → f ≡ 0
functions f (inl is) = is.0
functions f (inr called) =
    no_call called.caller f (leading (edge_of called.caller f Call) called.reached called.calls)

chains : (n f : ℕ) → Chain code 0 n f → (n ≡ 0) × (f ≡ 0)
chains _ _ Begins = (refl, refl)
chains _ _ (Calls n caller u function chain member calls) =
    let main = chains n caller chain in
    let own = subst (λ f. IsUnitOf code f u) main.1 member in
    no_call u function (edge_at (edge_of u function Call) u (way_units is_inner u own.us own.way) calls)

-- what is reached
pub in_code_0 : is_code code 0 ≡ true
unfolding word_from
in_code_0 = refl

goes : Contains (leads_from code 0) (edge_of 0 4 Next)
goes = subst (λ es. Contains es (edge_of 0 4 Next)) (sym leads_0) (0, lit< tt, refl)

pub reached_0 : Reached code 0 0
reached_0 = reached_first code is_any 0 in_code_0

pub reached_4 : Reached code 0 4
reached_4 = reached_along code is_any 0 (edge_of 0 4 Next) reached_0 goes refl

inner_0 : IsUnitOf code 0 0
inner_0 = reached_first code is_inner 0 in_code_0

inner_4 : IsUnitOf code 0 4
inner_4 = reached_along code is_inner 0 (edge_of 0 4 Next) inner_0 goes refl

listed : (u : ℕ) → UnitAt u → Contains (0 ∷ 4 ∷ []) u
listed _ At0 = (0, lit< tt, refl)
listed _ At4 = (1, lit< tt, refl)

pairs_rise : (k : ℕ) → k + 1 < 2 → slice_index (0 ∷ 4 ∷ []) k < slice_index (0 ∷ 4 ∷ []) (k + 1)
pairs_rise zero below = lit< tt
pairs_rise (suc k) below = absurd (omega (arith, below))

main_units : IsUnitsOf code 0 (0 ∷ 4 ∷ [])
main_units = record {
  are = λ u. (
    two (λ n. IsUnitOf code 0 n) 0 4 inner_0 inner_4 u,
    λ member. listed u
        (way_units is_inner u member.us member.way),
  );
  rise = pairs_rise;
}

units_of : (k : ℕ) (us : List ℕ) → slice_get flow.function_units k ≡ Some us
    → IsUnitsOf code (slice_index flow.functions k) us
units_of zero us is =
    let e : Some (0 ∷ 4 ∷ []) ≡ Some us = is in
    let same : (0 ∷ 4 ∷ []) ≡ us = cc in subst (λ vs. IsUnitsOf code 0 vs) same main_units
units_of (suc k) us is = cc

-- units
unit_is : (unit : FlowUnit) → Contains flow.units unit → IsUnit code 0 unit
unfolding kind_of
unit_is = two (λ unit. IsUnit code 0 unit) unit_0 unit_4
    (record { reached = reached_0; first = at_0; shape = (refl, refl) })
    (record { reached = reached_4; first = at_4; shape = (at_8, refl) })

shape_by : (unit : FlowUnit) (i j : Instr) → i ≡ j → HasShape code unit (is_control_instr j)
    → HasShape code unit (is_control_instr i)
shape_by unit i j same shape = subst (λ k. HasShape code unit (is_control_instr k)) (sym same) shape

unit_listed : (a n : ℕ) (i : Instr) (s : Option Instr) → UnitAt a → instr_at code a ≡ Some i
    → HasShape code (record { at = a; length = n; first = i; slot = s }) (is_control_instr i)
    → Contains flow.units (record { at = a; length = n; first = i; slot = s })
unfolding kind_of
unit_listed _ n i s At0 stands shape =
    let same = same_instr code 0 nop i at_0 stands in
    let unit : FlowUnit = record { at = 0; length = n; first = i; slot = s } in
    let has : HasShape code unit false = shape_by unit nop i same shape in
    (0, lit< tt, λ k. record { at = 0; length = sym has.1 k; first = same k; slot = sym has.0 k })
unit_listed _ n i s At4 stands shape =
    let same = same_instr code 4 back i at_4 stands in
    let unit : FlowUnit = record { at = 4; length = n; first = i; slot = s } in
    let has : HasShape code unit true = shape_by unit back i same shape in
    (1, lit< tt, λ k. record { at = 4; length = sym has.1 k; first = same k; slot = (sym at_8 ∙ has.0) k })

-- edges
is_listed : (e : Edge) → IsEdge code 0 e → Contains flow.edges e
is_listed e is = elim is.joins [
  | inl leads ↦ subst (λ d. Contains flow.edges d) (sym (leading e is.reached leads)) (0, lit< tt, refl)
  | inr r ↦ (
      let returns = r.1 in
      no_call returns.caller returns.function
      (leading (edge_of returns.caller returns.function Call) returns.reached returns.calls))
]

-- there is no fault
pub good : (u : ℕ) → UnitAt u → Good code u
unfolding is_direct kind_of
good _ At0 = record { instr = nop; stands = at_0; direct = refl; slot = λ control. cc }
good _ At4 = record { instr = back; stands = at_4; direct = refl; slot = λ control. (nop, at_8, refl) }

sound : (u : ℕ) → UnitAt u → is_faulty code u ≡ false
sound _ At0 = sound_0
sound _ At4 = sound_4

reserved : (a : ℕ) (i : Instr) → instr_at code a ≡ Some i → is_reserved code a ≡ true → ⊥
reserved a i stands is =
    let none = (and_parts (is_code code a) (is_none (instr_at code a)) is).1 in
    let clash : true ≡ false = sym none ∙ ap is_none stands in cc

control_of_unit : (u : ℕ) (g : Good code u) → is_control_at code u ≡ true → is_control_instr g.instr ≡ true
control_of_unit u g control = sym (control_there code u g.instr g.stands) ∙ control

no_reserved : (u a : ℕ) → Good code u → is_word_of code u a ≡ true → is_reserved code a ≡ true → ⊥
no_reserved u a g word is = elim (words_of_unit code u a word) [
  | inl first ↦ reserved a g.instr (ap (instr_at code) first ∙ g.stands) is
  | inr slot ↦ (
      let s = g.slot (control_of_unit u g slot.0) in reserved a s.0 (ap (instr_at code) slot.1 ∙ s.1) is)
]

no_slot_control : (u a : ℕ) → Good code u → is_control_at code u ≡ true → a ≡ u + 4 → is_control_at code a ≡ true → ⊥
no_slot_control u a g control follows is =
    let s = g.slot (control_of_unit u g control) in
    let clash : true ≡ false = sym is ∙ ap (is_control_at code) follows ∙ control_there code (u + 4) s.0 s.1 ∙ s.2 in
    cc

abbrev is_unit : ℕ → Bool
is_unit u = (u == 0) || (u == 4)

tested : (u : ℕ) → UnitAt u → is_unit u ≡ true
tested _ At0 = refl
tested _ At4 = refl

slot_unit : (u : ℕ) → UnitAt u → is_control_at code u ≡ true → UnitAt (u + 4) → ⊥
unfolding kind_of
slot_unit _ At0 control there =
    let clash : true ≡ false = sym control ∙ control_there code 0 nop at_0 in cc
slot_unit _ At4 control there = let clash : false ≡ true = tested 8 there in cc

record Clean (u : ℕ) : Type 0 where
  indirect : has_indirect code u ≡ false
  link : has_link_branch code u ≡ false
  leaves : leaves_code code u ≡ false

parts : (a b c d e : Bool) → ((((a || b) || c) || d) || e) ≡ false → (b ≡ false) × (c ≡ false) × (e ≡ false)
parts a b c d e is =
    let last = or_parts (((a || b) || c) || d) e is in
    let fourth = or_parts ((a || b) || c) d last.0 in
    let third = or_parts (a || b) c fourth.0 in
    ((or_parts a b third.0).1, third.1, last.1)

clean : (u : ℕ) → UnitAt u → Clean u
clean u at =
    let p = parts (has_reserved code u) (has_indirect code u) (has_link_branch code u) (has_slot_control code u)
    (leaves_code code u) (sound u at) in
    record { indirect = p.0; link = p.1; leaves = p.2 }

clash_of : (b : Bool) → b ≡ false → b ≡ true → ⊥
clash_of b never is = let clash : false ≡ true = sym never ∙ is in cc

no_fault : (fault : FlowFault) → Has code 0 fault → ⊥
unfolding Has
no_fault (Reserved a) (word, is) = no_reserved word.unit a (good word.unit (units word.unit word.reached)) word.has is
no_fault (Indirect a) (reached, is) = clash_of (has_indirect code a) (clean a (units a reached)).indirect is
no_fault (LinkBranch a) (reached, is) = clash_of (has_link_branch code a) (clean a (units a reached)).link is
no_fault (SlotControl a) (slot, is) =
    no_slot_control slot.unit a (good slot.unit (units slot.unit slot.reached)) slot.control slot.follows is
no_fault (SlotTarget a) (slot, reached) =
    slot_unit slot.unit (units slot.unit slot.reached) slot.control
    (subst (λ n. UnitAt n) slot.follows (units a reached))
no_fault (OffCode a) (inl (reached, is)) = clash_of (leaves_code code a) (clean a (units a reached)).leaves is
no_fault (OffCode a) (inr (is, off)) = clash_of (is_code code a) off (ap (is_code code) is ∙ in_code_0)
no_fault (Recursion a) is = no_call a is.function (leading (edge_of a is.function Call) is.reached is.calls)
no_fault Deep (n, f, chain, deep) = omega (arith, (chains n f chain).0, deep)
no_fault Memory has = has

pub block_is : (a : ℕ) → UnitAt a → Contains flow.blocks a
block_is a at = listed a at

pub has_graph : IsGraph code 0 flow
has_graph = record {
  sound = no_fault;
  entry_is = refl;
  units_are = λ unit. (
    unit_is unit,
    λ is. unit_listed unit.at unit.length unit.first unit.slot
        (units unit.at is.reached) is.first is.shape,
  );
  units_rise = pairs_rise;
  edges_are = λ e. (
    one (λ e. IsEdge code 0 e) (edge_of 0 4 Next) (record { reached = reached_0; joins = inl goes })
        e,
    is_listed e,
  );
  edges_rise = λ i j d less below. absurd (omega (arith, less, below));
  functions_are = λ f. (
    one (λ f. IsFunction code 0 f) 0 (inl (refl, in_code_0)) f,
    λ is.
        (0, lit< tt, sym (functions f is)),
  );
  functions_rise = λ k below. absurd (omega (arith, below));
  function_units_beside = refl;
  function_units_are = units_of;
  starts = λ a start. block_is a (units a start.reached);
  blocks_are = two (λ a. Reached code 0 a) 0 4 reached_0 reached_4;
  blocks_rise = pairs_rise;
}
