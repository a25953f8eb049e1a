-- The example's graph.
use Rattle.std.proofs.Common.{◌≡◌, ◌∙◌, refl, sym, ap, subst, ℕ, zero, suc, ◌+◌, ◌<◌, Bool, true, false, List, [], ◌∷◌, length, arith, lit<, ◌⊎◌, inl, inr}
use Rattle.std.specs.Prelude.{◌||◌, is_none, Option, Some, None, AllPairs, map, slice_get, slice_index}
use Rattle.std.specs.List.{Contains}
use Rattle.std.specs.Option.{option_and_then}
use Rattle.std.proofs.lemmas.Bool.{and_parts, or_parts}
use Rattle.mips_isa.specs.Kinds.{kind_of}
use Rattle.mips_isa.specs.declared.instr.Instr.{Instr}
use Rattle.flow_graph.specs.Code.{instr_at, is_code, is_control_at, is_control_instr}
use Rattle.flow_graph.specs.Edges.{edge_of, target_of}
use Rattle.flow_graph.specs.Faults.{has_indirect, has_link_branch, has_reserved, has_slot_control, is_reserved, is_word_of, leads_from, leaves_code}
use Rattle.flow_graph.specs.Flow.{ComesBefore, Flow, Has, HasShape, IsGraph, IsUnit, IsUnitsOf}
use Rattle.flow_graph.specs.Reached.{BeginsBlock, IsEdge, IsFunction, IsReached, IsUnitOf, IsWay, Reached, is_any, is_inner, target_at}
use Rattle.flow_graph.specs.declared.fault.FlowFault.{FlowFault}
use Rattle.flow_graph.specs.declared.fault.FlowFault.TheVariants.{Reserved, Indirect, LinkBranch, SlotControl, SlotTarget, OffCode, Recursion, Deep, Memory}
use Rattle.flow_graph.specs.declared.parts.Edge.{Edge}
use Rattle.flow_graph.specs.declared.parts.EdgeKind.TheVariants.{Next, Taken, Call, Return, Over}
use Rattle.flow_graph.specs.declared.parts.Unit.{Unit as FlowUnit}
use Rattle.run_law.specs.Program.{Good}
use Rattle.run_law.proofs.Coded.{control_there, same_instr, words_of_unit}
use Rattle.run_law.proofs.Example.{UnitAt, At0, At4, At12, At20, At28, EdgeAt, Goes0, Calls4, Over4, Next12, Taken12, all_edges, calls_28, chains, edge_at, functions, good, in_code_0, in_code_28, is_listed, leading, next_28, no_control, sound, tested, units, units_28}
use Rattle.run_law.proofs.ExampleCode.{again, at_0, at_12, at_16, at_20, at_24, at_28, at_32, at_4, at_8, back, call, code, leads_0, leads_12, leads_4, more, nop, target_4}
use Rattle.run_law.proofs.Flows.{reached_along, reached_first}

abbrev made : ℕ → ℕ → Instr → Option Instr → FlowUnit
made at length first slot = record { at = at; length = length; first = first; slot = slot }

abbrev pub unit_0 : FlowUnit
unit_0 = made 0 4 more None

abbrev pub unit_4 : FlowUnit
unit_4 = made 4 8 call (Some nop)

abbrev pub unit_12 : FlowUnit
unit_12 = made 12 8 again (Some nop)

abbrev pub unit_20 : FlowUnit
unit_20 = made 20 8 back (Some nop)

abbrev pub unit_28 : FlowUnit
unit_28 = made 28 8 back (Some nop)

abbrev all_units : List FlowUnit
all_units = unit_0 ∷ unit_4 ∷ unit_12 ∷ unit_20 ∷ unit_28 ∷ []

abbrev pub flow : Flow
flow = record {
  entry = 0;
  units = all_units;
  edges = all_edges;
  functions = 0 ∷ 28 ∷ [];
  function_units = (0 ∷ 4 ∷ 12 ∷ 20 ∷ []) ∷ (28 ∷ []) ∷ [];
  blocks = 0 ∷ 12 ∷ 20 ∷ 28 ∷ [];
}

-- members of lists by their places
pub two : {X : Type 0} (P : X → Type 0) (a b : X) → P a → P b → (x : X) → Contains (a ∷ b ∷ []) x → P x
two P a b pa pb x (zero, below, is) = subst P is pa
two P a b pa pb x (suc zero, below, is) = subst P is pb
two P a b pa pb x (suc (suc k), below, is) = absurd (omega (arith, below))

pub four : {X : Type 0} (P : X → Type 0) (a b c d : X) → P a → P b → P c → P d → (x : X)
    → Contains (a ∷ b ∷ c ∷ d ∷ []) x → P x
four P a b c d pa pb pc pd x (zero, below, is) = subst P is pa
four P a b c d pa pb pc pd x (suc zero, below, is) = subst P is pb
four P a b c d pa pb pc pd x (suc (suc zero), below, is) = subst P is pc
four P a b c d pa pb pc pd x (suc (suc (suc zero)), below, is) = subst P is pd
four P a b c d pa pb pc pd x (suc (suc (suc (suc k))), below, is) = absurd (omega (arith, below))

pub five : {X : Type 0} (P : X → Type 0) (a b c d e : X) → P a → P b → P c → P d → P e → (x : X)
    → Contains (a ∷ b ∷ c ∷ d ∷ e ∷ []) x → P x
five P a b c d e pa pb pc pd pe x (zero, below, is) = subst P is pa
five P a b c d e pa pb pc pd pe x (suc zero, below, is) = subst P is pb
five P a b c d e pa pb pc pd pe x (suc (suc zero), below, is) = subst P is pc
five P a b c d e pa pb pc pd pe x (suc (suc (suc zero)), below, is) = subst P is pd
five P a b c d e pa pb pc pd pe x (suc (suc (suc (suc zero))), below, is) = subst P is pe
five P a b c d e pa pb pc pd pe x (suc (suc (suc (suc (suc k)))), below, is) = absurd (omega (arith, below))

pub six : {X : Type 0} (P : X → Type 0) (a b c d e f : X) → P a → P b → P c → P d → P e → P f → (x : X)
    → Contains (a ∷ b ∷ c ∷ d ∷ e ∷ f ∷ []) x → P x
six P a b c d e f pa pb pc pd pe pf x (zero, below, is) = subst P is pa
six P a b c d e f pa pb pc pd pe pf x (suc zero, below, is) = subst P is pb
six P a b c d e f pa pb pc pd pe pf x (suc (suc zero), below, is) = subst P is pc
six P a b c d e f pa pb pc pd pe pf x (suc (suc (suc zero)), below, is) = subst P is pd
six P a b c d e f pa pb pc pd pe pf x (suc (suc (suc (suc zero))), below, is) = subst P is pe
six P a b c d e f pa pb pc pd pe pf x (suc (suc (suc (suc (suc zero)))), below, is) = subst P is pf
six P a b c d e f pa pb pc pd pe pf x (suc (suc (suc (suc (suc (suc k))))), below, is) = absurd (omega (arith, below))

-- what is reached
goes : (e : Edge) → EdgeAt e → Contains (leads_from code e.from) e
goes _ Goes0 = subst (λ es. Contains es (edge_of 0 4 Next)) (sym leads_0) (0, lit< tt, refl)
goes _ Calls4 = subst (λ es. Contains es (edge_of 4 28 Call)) (sym leads_4) (0, lit< tt, refl)
goes _ Over4 = subst (λ es. Contains es (edge_of 4 12 Over)) (sym leads_4) (1, lit< tt, refl)
goes _ Next12 = subst (λ es. Contains es (edge_of 12 20 Next)) (sym leads_12) (0, lit< tt, refl)
goes _ Taken12 = subst (λ es. Contains es (edge_of 12 0 Taken)) (sym leads_12) (1, lit< tt, refl)

pub inner_0 : IsUnitOf code 0 0
inner_0 = reached_first code is_inner 0 in_code_0

pub inner_4 : IsUnitOf code 0 4
inner_4 = reached_along code is_inner 0 (edge_of 0 4 Next) inner_0 (goes (edge_of 0 4 Next) Goes0) refl

inner_12 : IsUnitOf code 0 12
inner_12 = reached_along code is_inner 0 (edge_of 4 12 Over) inner_4 (goes (edge_of 4 12 Over) Over4) refl

inner_20 : IsUnitOf code 0 20
inner_20 = reached_along code is_inner 0 (edge_of 12 20 Next) inner_12 (goes (edge_of 12 20 Next) Next12) refl

inner_28 : IsUnitOf code 28 28
inner_28 = reached_first code is_inner 28 in_code_28

pub reached_0 : Reached code 0 0
reached_0 = reached_first code is_any 0 in_code_0

reached_4 : Reached code 0 4
reached_4 = reached_along code is_any 0 (edge_of 0 4 Next) reached_0 (goes (edge_of 0 4 Next) Goes0) refl

reached_12 : Reached code 0 12
reached_12 = reached_along code is_any 0 (edge_of 4 12 Over) reached_4 (goes (edge_of 4 12 Over) Over4) refl

reached_20 : Reached code 0 20
reached_20 = reached_along code is_any 0 (edge_of 12 20 Next) reached_12 (goes (edge_of 12 20 Next) Next12) refl

reached_28 : Reached code 0 28
reached_28 = reached_along code is_any 0 (edge_of 4 28 Call) reached_4 (goes (edge_of 4 28 Call) Calls4) refl

-- the units of the first function
data InnerAt : ℕ → Type 0 where
  In0 : InnerAt 0
  In4 : InnerAt 4
  In12 : InnerAt 12
  In20 : InnerAt 20

inner_unit : (u : ℕ) → InnerAt u → UnitAt u
inner_unit _ In0 = At0
inner_unit _ In4 = At4
inner_unit _ In12 = At12
inner_unit _ In20 = At20

to_inner : (e : Edge) → EdgeAt e → is_inner e.kind ≡ true → InnerAt e.to
to_inner _ Goes0 inner = In4
to_inner _ Calls4 inner = cc
to_inner _ Over4 inner = In12
to_inner _ Next12 inner = In20
to_inner _ Taken12 inner = In0

inner_at : (u : ℕ) (us : List ℕ) → IsWay code is_inner 0 (u ∷ us) → InnerAt u
unfolding IsWay
inner_at u [] way = subst (λ n. InnerAt n) (sym way.0) In0
inner_at u (v ∷ us) way =
    let joins = way.0 in
    to_inner (edge_of v u joins.kind) (edge_at (edge_of v u joins.kind) v (inner_unit v (inner_at v us way.1)) joins.leads) joins.is_asked

inner_listed : (u : ℕ) → InnerAt u → Contains (0 ∷ 4 ∷ 12 ∷ 20 ∷ []) u
inner_listed _ In0 = (0, lit< tt, refl)
inner_listed _ In4 = (1, lit< tt, refl)
inner_listed _ In12 = (2, lit< tt, refl)
inner_listed _ In20 = (3, lit< tt, refl)

rise_of : (k : ℕ) → k + 1 < 4 → slice_index (0 ∷ 4 ∷ 12 ∷ 20 ∷ []) k < slice_index (0 ∷ 4 ∷ 12 ∷ 20 ∷ []) (k + 1)
rise_of zero below = lit< tt
rise_of (suc zero) below = lit< tt
rise_of (suc (suc zero)) below = lit< tt
rise_of (suc (suc (suc k))) below = absurd (omega (arith, below))

blocks_rise : (k : ℕ) → k + 1 < 4 → slice_index flow.blocks k < slice_index flow.blocks (k + 1)
blocks_rise zero below = lit< tt
blocks_rise (suc zero) below = lit< tt
blocks_rise (suc (suc zero)) below = lit< tt
blocks_rise (suc (suc (suc k))) below = absurd (omega (arith, below))

functions_rise : (k : ℕ) → k + 1 < 2 → slice_index flow.functions k < slice_index flow.functions (k + 1)
functions_rise zero below = lit< tt
functions_rise (suc k) below = absurd (omega (arith, below))

main_units : IsUnitsOf code 0 (0 ∷ 4 ∷ 12 ∷ 20 ∷ [])
main_units = record {
  are = λ u. (four (λ n. IsUnitOf code 0 n) 0 4 12 20 inner_0 inner_4 inner_12 inner_20 u, λ member. inner_listed u (inner_at u member.us member.way));
  rise = rise_of;
}

leaf_units : IsUnitsOf code 28 (28 ∷ [])
leaf_units = record {
  are = λ u. (one u, λ member. (0, lit< tt, sym (units_28 u member)));
  rise = λ k below. absurd (omega (arith, below));
}
  where
    one : (u : ℕ) → Contains (28 ∷ []) u → IsUnitOf code 28 u
    one u (zero, below, is) = subst (λ n. IsUnitOf code 28 n) is inner_28
    one u (suc k, below, is) = absurd (omega (arith, below))

units_of : (k : ℕ) (us : List ℕ) → slice_get flow.function_units k ≡ Some us
    → IsUnitsOf code (slice_index flow.functions k) us
units_of zero us is = let e : Some (0 ∷ 4 ∷ 12 ∷ 20 ∷ []) ≡ Some us = is in let same : (0 ∷ 4 ∷ 12 ∷ 20 ∷ []) ≡ us = cc in subst (λ vs. IsUnitsOf code 0 vs) same main_units
units_of (suc zero) us is = let e : Some (28 ∷ []) ≡ Some us = is in let same : (28 ∷ []) ≡ us = cc in subst (λ vs. IsUnitsOf code 28 vs) same leaf_units
units_of (suc (suc k)) us is = cc

-- units
unit_is : (unit : FlowUnit) → Contains all_units unit → IsUnit code 0 unit
unfolding kind_of
unit_is = five (λ unit. IsUnit code 0 unit) unit_0 unit_4 unit_12 unit_20 unit_28
    (record { reached = reached_0; first = at_0; shape = (refl, refl) }) (record { reached = reached_4; first = at_4; shape = (at_8, refl) })
    (record { reached = reached_12; first = at_12; shape = (at_16, refl) }) (record { reached = reached_20; first = at_20; shape = (at_24, refl) })
    (record { reached = reached_28; first = at_28; shape = (at_32, refl) })

shape_by : (unit : FlowUnit) (i j : Instr) → i ≡ j → HasShape code unit (is_control_instr j)
    → HasShape code unit (is_control_instr i)
shape_by unit i j same shape = subst (λ k. HasShape code unit (is_control_instr k)) (sym same) shape

unit_listed : (a n : ℕ) (i : Instr) (s : Option Instr) → UnitAt a → instr_at code a ≡ Some i
    → HasShape code (made a n i s) (is_control_instr i) → Contains all_units (made a n i s)
unfolding kind_of
unit_listed _ n i s At0 stands shape =
    let same = same_instr code 0 more i at_0 stands in
    let has : HasShape code (made 0 n i s) false = shape_by (made 0 n i s) more i same shape in
    (0, lit< tt, λ k. record { at = 0; length = sym has.1 k; first = same k; slot = sym has.0 k })
unit_listed _ n i s At4 stands shape =
    let same = same_instr code 4 call i at_4 stands in
    let has : HasShape code (made 4 n i s) true = shape_by (made 4 n i s) call i same shape in
    (1, lit< tt, λ k. record { at = 4; length = sym has.1 k; first = same k; slot = (sym at_8 ∙ has.0) k })
unit_listed _ n i s At12 stands shape =
    let same = same_instr code 12 again i at_12 stands in
    let has : HasShape code (made 12 n i s) true = shape_by (made 12 n i s) again i same shape in
    (2, lit< tt, λ k. record { at = 12; length = sym has.1 k; first = same k; slot = (sym at_16 ∙ has.0) k })
unit_listed _ n i s At20 stands shape =
    let same = same_instr code 20 back i at_20 stands in
    let has : HasShape code (made 20 n i s) true = shape_by (made 20 n i s) back i same shape in
    (3, lit< tt, λ k. record { at = 20; length = sym has.1 k; first = same k; slot = (sym at_24 ∙ has.0) k })
unit_listed _ n i s At28 stands shape =
    let same = same_instr code 28 back i at_28 stands in
    let has : HasShape code (made 28 n i s) true = shape_by (made 28 n i s) back i same shape in
    (4, lit< tt, λ k. record { at = 28; length = sym has.1 k; first = same k; slot = (sym at_32 ∙ has.0) k })

units_rise : (k : ℕ) → k + 1 < 5
    → slice_index (map (λ unit. unit.at) all_units) k < slice_index (map (λ unit. unit.at) all_units) (k + 1)
units_rise zero below = lit< tt
units_rise (suc zero) below = lit< tt
units_rise (suc (suc zero)) below = lit< tt
units_rise (suc (suc (suc zero))) below = lit< tt
units_rise (suc (suc (suc (suc k)))) below = absurd (omega (arith, below))

-- edges
led : (e : Edge) → EdgeAt e → Reached code 0 e.from → IsEdge code 0 e
led e at reached = record { reached = reached; joins = inl (goes e at) }

returned : IsEdge code 0 (edge_of 28 12 Return)
unfolding kind_of
returned = record {
  reached = reached_28;
  joins = inr (
    refl,
    record {
      function = 28;
      caller = 4;
      reached = reached_4;
      calls = goes (edge_of 4 28 Call) Calls4;
      member = inner_28;
      instr = back;
      at = at_28;
      is_return = refl;
      point = refl;
    },
  );
}

edge_is : (e : Edge) → Contains all_edges e → IsEdge code 0 e
edge_is = six (λ e. IsEdge code 0 e) (edge_of 0 4 Next) (edge_of 4 12 Over) (edge_of 4 28 Call) (edge_of 12 0 Taken) (edge_of 12 20 Next) (edge_of 28 12 Return)
    (led (edge_of 0 4 Next) Goes0 reached_0) (led (edge_of 4 12 Over) Over4 reached_4) (led (edge_of 4 28 Call) Calls4 reached_4)
    (led (edge_of 12 0 Taken) Taken12 reached_12) (led (edge_of 12 20 Next) Next12 reached_12) returned

edges_rise : AllPairs ComesBefore all_edges
edges_rise zero zero d less below = absurd (omega (arith, less))
edges_rise zero (suc zero) d less below = inl (lit< tt)
edges_rise zero (suc (suc zero)) d less below = inl (lit< tt)
edges_rise zero (suc (suc (suc zero))) d less below = inl (lit< tt)
edges_rise zero (suc (suc (suc (suc zero)))) d less below = inl (lit< tt)
edges_rise zero (suc (suc (suc (suc (suc zero))))) d less below = inl (lit< tt)
edges_rise (suc zero) zero d less below = absurd (omega (arith, less))
edges_rise (suc zero) (suc zero) d less below = absurd (omega (arith, less))
edges_rise (suc zero) (suc (suc zero)) d less below = inr (refl, inl (lit< tt))
edges_rise (suc zero) (suc (suc (suc zero))) d less below = inl (lit< tt)
edges_rise (suc zero) (suc (suc (suc (suc zero)))) d less below = inl (lit< tt)
edges_rise (suc zero) (suc (suc (suc (suc (suc zero))))) d less below = inl (lit< tt)
edges_rise (suc (suc zero)) zero d less below = absurd (omega (arith, less))
edges_rise (suc (suc zero)) (suc zero) d less below = absurd (omega (arith, less))
edges_rise (suc (suc zero)) (suc (suc zero)) d less below = absurd (omega (arith, less))
edges_rise (suc (suc zero)) (suc (suc (suc zero))) d less below = inl (lit< tt)
edges_rise (suc (suc zero)) (suc (suc (suc (suc zero)))) d less below = inl (lit< tt)
edges_rise (suc (suc zero)) (suc (suc (suc (suc (suc zero))))) d less below = inl (lit< tt)
edges_rise (suc (suc (suc zero))) zero d less below = absurd (omega (arith, less))
edges_rise (suc (suc (suc zero))) (suc zero) d less below = absurd (omega (arith, less))
edges_rise (suc (suc (suc zero))) (suc (suc zero)) d less below = absurd (omega (arith, less))
edges_rise (suc (suc (suc zero))) (suc (suc (suc zero))) d less below = absurd (omega (arith, less))
edges_rise (suc (suc (suc zero))) (suc (suc (suc (suc zero)))) d less below = inr (refl, inl (lit< tt))
edges_rise (suc (suc (suc zero))) (suc (suc (suc (suc (suc zero))))) d less below = inl (lit< tt)
edges_rise (suc (suc (suc (suc zero)))) zero d less below = absurd (omega (arith, less))
edges_rise (suc (suc (suc (suc zero)))) (suc zero) d less below = absurd (omega (arith, less))
edges_rise (suc (suc (suc (suc zero)))) (suc (suc zero)) d less below = absurd (omega (arith, less))
edges_rise (suc (suc (suc (suc zero)))) (suc (suc (suc zero))) d less below = absurd (omega (arith, less))
edges_rise (suc (suc (suc (suc zero)))) (suc (suc (suc (suc zero)))) d less below = absurd (omega (arith, less))
edges_rise (suc (suc (suc (suc zero)))) (suc (suc (suc (suc (suc zero))))) d less below = inl (lit< tt)
edges_rise (suc (suc (suc (suc (suc i))))) j d less below = absurd (omega (arith, less, below))
edges_rise i (suc (suc (suc (suc (suc (suc j)))))) d less below = absurd (omega (arith, less, below))

-- functions
function_is : (f : ℕ) → Contains flow.functions f → IsFunction code 0 f
function_is = two (λ f. IsFunction code 0 f) 0 28 (inl (refl, in_code_0)) (inr (record { caller = 4; reached = reached_4; calls = goes (edge_of 4 28 Call) Calls4 }))

function_listed : (f : ℕ) → IsFunction code 0 f → Contains flow.functions f
function_listed f is = elim (functions f is) [ inl main ↦ (0, lit< tt, sym main) | inr leaf ↦ (1, lit< tt, sym leaf) ]

-- blocks
abbrev number : Option ℕ → ℕ
number None = 0
number (Some n) = n

targets : (u : ℕ) (i : Instr) → instr_at code u ≡ Some i → target_at code u ≡ target_of i u
targets u i stands = ap (option_and_then (λ j. target_of j u)) stands

other_target : (u a b : ℕ) {P : Type 0} → target_at code u ≡ Some a → target_at code u ≡ Some b → (a ≡ b → ⊥) → P
other_target u a b is other differ = absurd (differ (ap number (sym is ∙ other)))

no_target : (u b : ℕ) {P : Type 0} → target_at code u ≡ None → target_at code u ≡ Some b → P
no_target u b {P} none is = let clash : None ≡ Some b = sym none ∙ is in cc

begins_4 : (u : ℕ) {P : Type 0} → UnitAt u → BeginsBlock code u 4 → P
unfolding target_of
begins_4 u {P} at (inr behind) = absurd (omega (arith, behind.1))
begins_4 _ {P} At0 (inl to) = no_target 0 4 (targets 0 more at_0) to
begins_4 _ {P} At4 (inl to) = other_target 4 28 4 target_4 to (λ e. omega (arith, e))
begins_4 _ {P} At12 (inl to) = other_target 12 0 4 (targets 12 again at_12) to (λ e. omega (arith, e))
begins_4 _ {P} At20 (inl to) = no_target 20 4 (targets 20 back at_20) to
begins_4 _ {P} At28 (inl to) = no_target 28 4 (targets 28 back at_28) to

starts_4 : (a : ℕ) {P : Type 0} → a ≡ 4 → (a ≡ 0) ⊎ ((u : ℕ) × Reached code 0 u × BeginsBlock code u a) → P
starts_4 a is (inl first) = absurd (omega (arith, is, first))
starts_4 a is (inr (u, reached, begins)) = begins_4 u (units u reached) (subst (λ n. BeginsBlock code u n) is begins)

start_at : (a : ℕ) → UnitAt a → (a ≡ 0) ⊎ ((u : ℕ) × Reached code 0 u × BeginsBlock code u a) → Contains flow.blocks a
start_at _ At0 begins = (0, lit< tt, refl)
start_at _ At4 begins = starts_4 4 refl begins
start_at _ At12 begins = (1, lit< tt, refl)
start_at _ At20 begins = (2, lit< tt, refl)
start_at _ At28 begins = (3, lit< tt, refl)

-- there is no fault
reserved : (a : ℕ) (i : Instr) → instr_at code a ≡ Some i → is_reserved code a ≡ true → ⊥
reserved a i stands is =
    let none = (and_parts (is_code code a) (is_none (instr_at code a)) is).1 in
    let clash : true ≡ false = sym none ∙ ap is_none stands in
    cc

control_of_unit : (u : ℕ) (g : Good code u) → is_control_at code u ≡ true → is_control_instr g.instr ≡ true
control_of_unit u g control = sym (control_there code u g.instr g.stands) ∙ control

no_reserved : (u a : ℕ) → Good code u → is_word_of code u a ≡ true → is_reserved code a ≡ true → ⊥
no_reserved u a g word is = elim (words_of_unit code u a word) [
  | inl first ↦ reserved a g.instr (ap (instr_at code) first ∙ g.stands) is
  | inr slot ↦
      let s = g.slot (control_of_unit u g slot.0) in
      reserved a s.0 (ap (instr_at code) slot.1 ∙ s.1) is
]

no_slot_control : (u a : ℕ) → Good code u → is_control_at code u ≡ true → a ≡ u + 4 → is_control_at code a ≡ true → ⊥
no_slot_control u a g control follows is =
    let s = g.slot (control_of_unit u g control) in
    let clash : true ≡ false = sym is ∙ ap (is_control_at code) follows ∙ control_there code (u + 4) s.0 s.1 ∙ s.2 in
    cc

slot_unit : (u : ℕ) → UnitAt u → is_control_at code u ≡ true → UnitAt (u + 4) → ⊥
unfolding kind_of
slot_unit _ At0 control there = no_control 0 more at_0 refl control
slot_unit _ At4 control there = let clash : false ≡ true = tested 8 there in cc
slot_unit _ At12 control there = let clash : false ≡ true = tested 16 there in cc
slot_unit _ At20 control there = let clash : false ≡ true = tested 24 there in cc
slot_unit _ At28 control there = let clash : false ≡ true = tested 32 there in cc

record Clean (u : ℕ) : Type 0 where
  indirect : has_indirect code u ≡ false
  link : has_link_branch code u ≡ false
  leaves : leaves_code code u ≡ false

parts : (a b c d e : Bool) → ((((a || b) || c) || d) || e) ≡ false → (b ≡ false) × (c ≡ false) × (e ≡ false)
parts a b c d e is =
    let last = or_parts (((a || b) || c) || d) e is in
    let fourth = or_parts ((a || b) || c) d last.0 in
    let third = or_parts (a || b) c fourth.0 in
    ((or_parts a b third.0).1, third.1, last.1)

clean : (u : ℕ) → UnitAt u → Clean u
clean u at =
    let p = parts (has_reserved code u) (has_indirect code u) (has_link_branch code u) (has_slot_control code u) (leaves_code code u) (sound u at) in
    record { indirect = p.0; link = p.1; leaves = p.2 }

clash_of : (b : Bool) → b ≡ false → b ≡ true → ⊥
clash_of b never is = let clash : false ≡ true = sym never ∙ is in cc

way_any_28 : (u : ℕ) (us : List ℕ) → IsWay code is_any 28 (u ∷ us) → u ≡ 28
unfolding IsWay
way_any_28 u [] way = way.0
way_any_28 u (v ∷ us) way =
    let joins = way.0 in
    next_28 (edge_of v u joins.kind) (subst (λ n. Contains (leads_from code n) (edge_of v u joins.kind)) (way_any_28 v us way.1) joins.leads)

no_fault : (fault : FlowFault) → Has code 0 fault → ⊥
unfolding Has
no_fault (Reserved a) (word, is) = no_reserved word.unit a (good word.unit (units word.unit word.reached)) word.has is
no_fault (Indirect a) (reached, is) = clash_of (has_indirect code a) (clean a (units a reached)).indirect is
no_fault (LinkBranch a) (reached, is) = clash_of (has_link_branch code a) (clean a (units a reached)).link is
no_fault (SlotControl a) (slot, is) = no_slot_control slot.unit a (good slot.unit (units slot.unit slot.reached)) slot.control slot.follows is
no_fault (SlotTarget a) (slot, reached) = slot_unit slot.unit (units slot.unit slot.reached) slot.control (subst (λ n. UnitAt n) slot.follows (units a reached))
no_fault (OffCode a) (inl (reached, is)) = clash_of (leaves_code code a) (clean a (units a reached)).leaves is
no_fault (OffCode a) (inr (is, off)) = clash_of (is_code code a) off (ap (is_code code) is ∙ in_code_0)
no_fault (Recursion a) is =
    let to = calls_28 (edge_of a is.function Call) (leading (edge_of a is.function Call) is.reached is.calls) refl in
    let again : IsReached code is_any 28 a = subst (λ f. IsReached code is_any f a) to.1 is.again in
    let same = way_any_28 a again.us again.way in
    omega (arith, same, to.0)
no_fault Deep (n, f, chain, deep) = elim (chains n f chain) [ inl main ↦ omega (arith, main.0, deep) | inr leaf ↦ omega (arith, leaf.0, deep) ]
no_fault Memory has = has

pub has_graph : IsGraph code 0 flow
has_graph = record {
  sound = no_fault;
  entry_is = refl;
  units_are = λ unit. (unit_is unit, λ is. unit_listed unit.at unit.length unit.first unit.slot (units unit.at is.reached) is.first is.shape);
  units_rise = units_rise;
  edges_are = λ e. (edge_is e, is_listed e);
  edges_rise = edges_rise;
  functions_are = λ f. (function_is f, function_listed f);
  functions_rise = functions_rise;
  function_units_beside = refl;
  function_units_are = units_of;
  starts = λ a start. start_at a (units a start.reached) start.begins;
  blocks_are = four (λ a. Reached code 0 a) 0 12 20 28 reached_0 reached_12 reached_20 reached_28;
  blocks_rise = blocks_rise;
}
