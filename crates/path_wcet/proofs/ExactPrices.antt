-- For each graph of code there are prices at which each unit and edge costs just its static cost.
use Rattle.std.proofs.Common.{◌≡◌, refl, sym, ap, subst, ◌∙◌, ℕ, ◌+◌, ◌%◌, ◌^◌, Bool, true, false, List, [], ◌∷◌, arith, ◌⊎◌, inl, inr, Option, Some, None, eq-eqb}
use Rattle.std.specs.Prelude.{◌==◌, if◌then◌else◌}
use Rattle.std.specs.List.{Contains}
use Rattle.std.proofs.lemmas.Bool.{eqb-true}
use Rattle.visa_io.specs.declared.records.Code.{Code}
use Rattle.mips_isa.specs.declared.instr.Instr.{Instr}
use Rattle.flow_graph.specs.Code.{instr_at, is_control_instr, passes}
use Rattle.flow_graph.specs.Flow.{Flow, Has, HasShape, IsGraph}
use Rattle.flow_graph.specs.declared.fault.FlowFault.TheVariants.{SlotTarget}
use Rattle.flow_graph.specs.declared.parts.Unit.{Unit as FlowUnit}
use Rattle.loop_regions.specs.Costs.{Prices, unit_cost}
use Rattle.persistence.specs.Charges.{charged_by, has_slot}
use Rattle.persistence.proofs.Units.{long_found}
use Rattle.path_wcet.specs.declared.costs.Costs.{Costs}
use Rattle.path_wcet.specs.declared.costs.Pen.{Pen}
use Rattle.path_wcet.specs.Longest.{IsPricedExactly}
use Rattle.path_wcet.specs.Static.{edge_price, first_at, slot_cost, static_cost, unit_price}
use Rattle.path_wcet.proofs.Laps.{first, later}
use Rattle.path_wcet.proofs.Reach.{no_bool}

-- an instruction costs what it costs as the first of a unit, or else in a slot
abbrev base_by : Option Instr → Option Instr → Bool → Bool → Pen → ℕ
base_by (Some i) o a b pen = static_cost i a pen
base_by None o a b pen = slot_cost o b pen

abbrev base_at : Code → Flow → Costs → ℕ → ℕ
base_at code g costs a = base_by (first_at g.units a) (instr_at code a) (charged_by costs.charge a) (charged_by costs.charge (a % 2 ^ 32)) costs.pen

abbrev pub prices_of : Code → Flow → Costs → Prices
prices_of code g costs = record { base = base_at code g costs; edge = edge_price g.units; miss = 0; bound = λ n. 0 }

-- the unit whose first instruction is told
record IsFirstAt (units : List FlowUnit) (a : ℕ) (i : Instr) : Type 0 where
  unit : FlowUnit
  among : Contains units unit
  at : unit.at ≡ a
  is : unit.first ≡ i

some_instr : (i j : Instr) → Some i ≡ Some j → i ≡ j
some_instr i j e = cc

none_instr : {X : Type 0} (i : Instr) → None ≡ Some i → X
none_instr i e = absurd (let b : ⊥ = cc in b)

first_found : (units : List FlowUnit) (a : ℕ) (i : Instr) → first_at units a ≡ Some i → IsFirstAt units a i
first_found [] a i is = none_instr i is
first_found (u ∷ units) a i is = by_test (u.at == a) refl is (λ h. first_found units a i h)
  where
    by_test : (b : Bool) → (u.at == a) ≡ b → (if b then Some u.first else first_at units a) ≡ Some i → (first_at units a ≡ Some i → IsFirstAt units a i) → IsFirstAt (u ∷ units) a i
    by_test true at e more = record { unit = u; among = first u units; at = eqb-true u.at a at; is = some_instr u.first i e }
    by_test false at e more = let f = more e in record { unit = f.unit; among = later u units f.unit f.among; at = f.at; is = f.is }

first_there : (units : List FlowUnit) (a : ℕ) (unit : FlowUnit) → Contains units unit → unit.at ≡ a → (i : Instr) × (first_at units a ≡ Some i)
first_there [] a unit c at = absurd (omega (arith, c.1))
first_there (u ∷ units) a unit c at = by_test (u.at == a) refl (λ d. first_there units a unit d at)
  where
    by_test : (b : Bool) → (u.at == a) ≡ b → (Contains units unit → (i : Instr) × (first_at units a ≡ Some i)) → (i : Instr) × (first_at (u ∷ units) a ≡ Some i)
    by_test true is more = (u.first, ap (λ (b : Bool). let o : Option Instr = (if b then Some u.first else first_at units a) in o) is)
    by_test false is more = by_place c
      where
        by_place : Contains (u ∷ units) unit → (i : Instr) × (first_at (u ∷ units) a ≡ Some i)
        by_place (Rattle.std.proofs.Common.zero, below, same) = no_bool (sym (eq-eqb u.at a (ap (λ (v : FlowUnit). v.at) same ∙ at)) ∙ is)
        by_place (Rattle.std.proofs.Common.suc k, below, same) =
            let f = more (k, omega (arith, below), same) in
            (f.0, ap (λ (b : Bool). let o : Option Instr = (if b then Some u.first else first_at units a) in o) is ∙ f.1)

-- at a unit's address its own first instruction is told
first_is : (code : Code) (entry : ℕ) (g : Flow) → IsGraph code entry g → (unit : FlowUnit) → Contains g.units unit → first_at g.units unit.at ≡ Some unit.first
first_is code entry g is unit c =
    let f = first_there g.units unit.at unit c refl in
    let u = first_found g.units unit.at f.0 f.1 in
    let one : instr_at code unit.at ≡ Some unit.first = ((is.units_are unit).0 c).first in
    let two : instr_at code u.unit.at ≡ Some u.unit.first = ((is.units_are u.unit).0 u.among).first in
    let same = some_instr u.unit.first unit.first (sym two ∙ ap (instr_at code) u.at ∙ one) in
    f.1 ∙ ap (λ (i : Instr). let o : Option Instr = Some i in o) (sym u.is ∙ same)

-- a slot is no unit
slot_no_unit : (code : Code) (entry : ℕ) (g : Flow) → IsGraph code entry g → (unit : FlowUnit) → Contains g.units unit → is_control_instr unit.first ≡ true → first_at g.units (unit.at + 4) ≡ None
unfolding Has
slot_no_unit code entry g is unit c control = by_first (first_at g.units (unit.at + 4)) refl
  where
    by_first : (o : Option Instr) → first_at g.units (unit.at + 4) ≡ o → o ≡ None
    by_first None at = refl
    by_first (Some i) at =
        let u = first_found g.units (unit.at + 4) i at in
        let mine = (is.units_are unit).0 c in
        let reached = subst (Rattle.flow_graph.specs.Reached.Reached code entry) u.at ((is.units_are u.unit).0 u.among).reached in
        absurd (is.sound (SlotTarget (unit.at + 4)) (record { unit = unit.at; reached = mine.reached; control = ap (passes is_control_instr) mine.first ∙ control; follows = refl }, reached))

exact_unit : (code : Code) (entry : ℕ) (g : Flow) (costs : Costs) → IsGraph code entry g → (unit : FlowUnit) → Contains g.units unit → unit_cost (prices_of code g costs) (λ a. false) (has_slot g unit.at) unit.at ≡ unit_price unit costs
unfolding unit_price
exact_unit code entry g costs is unit c = by_shape (is_control_instr unit.first) refl ((is.units_are unit).0 c).shape
  where
    own : base_at code g costs unit.at ≡ static_cost unit.first (charged_by costs.charge unit.at) costs.pen
    own = ap (λ (o : Option Instr). base_by o (instr_at code unit.at) (charged_by costs.charge unit.at) (charged_by costs.charge (unit.at % 2 ^ 32)) costs.pen) (first_is code entry g is unit c)

    long : (unit.length == 8) ≡ has_slot g unit.at
    long = subst (λ (v : FlowUnit). (v.length == 8) ≡ has_slot g unit.at) c.2 (long_found g.units unit.at c.0 unit is.units_rise c.1 (ap (λ (v : FlowUnit). v.at) c.2))

    by_shape : (b : Bool) → is_control_instr unit.first ≡ b → HasShape code unit b → unit_cost (prices_of code g costs) (λ a. false) (has_slot g unit.at) unit.at ≡ unit_price unit costs
    by_shape true control shape =
        let eight = sym long ∙ eq-eqb unit.length 8 shape.1 in
        let whole = ap (λ (b : Bool). unit_cost (prices_of code g costs) (λ a. false) b unit.at) eight in
        let slot : base_at code g costs (unit.at + 4) ≡ slot_cost unit.slot (charged_by costs.charge ((unit.at + 4) % 2 ^ 32)) costs.pen =
        ap (λ (o : Option Instr). base_by o (instr_at code (unit.at + 4)) (charged_by costs.charge (unit.at + 4)) (charged_by costs.charge ((unit.at + 4) % 2 ^ 32)) costs.pen) (slot_no_unit code entry g is unit c control)
        ∙ ap (λ (o : Option Instr). slot_cost o (charged_by costs.charge ((unit.at + 4) % 2 ^ 32)) costs.pen) shape.0 in
        omega (arith, whole, own, slot)
    by_shape false plain shape =
        let four = sym long ∙ ap (λ k. k == 8) shape.1 in
        let whole = ap (λ (b : Bool). unit_cost (prices_of code g costs) (λ a. false) b unit.at) four in
        let slot = ap (λ (o : Option Instr). slot_cost o (charged_by costs.charge ((unit.at + 4) % 2 ^ 32)) costs.pen) shape.0 in
        omega (arith, whole, own, slot)

pub exact_prices : (code : Code) (entry : ℕ) (g : Flow) (costs : Costs) → IsGraph code entry g → IsPricedExactly g costs (prices_of code g costs) (λ a. false) (has_slot g)
exact_prices code entry g costs is = record { units = exact_unit code entry g costs is; edges = λ e c. refl }
