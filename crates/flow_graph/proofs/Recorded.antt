-- The units of a graph are what is reached.
use Rattle.std.proofs.Common.{ℕ, ◌+◌, ◌≡◌, refl, sym, ap, subst, Bool, true, false, is_none, Option, Some, None}
use Rattle.visa_io.specs.declared.records.Code.{Code}
use Rattle.mips_isa.specs.declared.instr.Instr.{Instr}
use Rattle.flow_graph.specs.Code.{instr_at, is_code, is_control_instr}
use Rattle.flow_graph.specs.Flow.{Flow, Has, HasShape, IsGraph, IsUnitIn}
use Rattle.flow_graph.specs.Reached.{Reached, is_any}
use Rattle.flow_graph.specs.declared.fault.FlowFault.TheVariants.{Reserved}
use Rattle.flow_graph.specs.declared.parts.Unit.{Unit as FlowUnit}
use Rattle.flow_graph.proofs.Depths.{leads_code}
use Rattle.flow_graph.proofs.Members.{from_map, to_map}
use Rattle.flow_graph.proofs.OwnFaults.{both, word_here}
use Rattle.flow_graph.proofs.Reaching.{way_code}

pub unit_reached : (code : Code) (entry : ℕ) (g : Flow) (a : ℕ) → IsGraph code entry g → IsUnitIn g a → Reached code entry a
unit_reached code entry g a is h =
    let i = from_map (λ (unit : FlowUnit). unit.at) g.units a h in
    subst (Reached code entry) i.is ((is.units_are i.of).0 i.member).reached

-- an instruction stands at each unit
unit_stands : (code : Code) (entry : ℕ) (g : Flow) (u : ℕ) → IsGraph code entry g → Reached code entry u → (i : Instr) × (instr_at code u ≡ Some i)
unfolding Has
unit_stands code entry g u is reached = by_instr (instr_at code u) refl
  where
    by_instr : (o : Option Instr) → instr_at code u ≡ o → (i : Instr) × (instr_at code u ≡ Some i)
    by_instr (Some i) stands = (i, stands)
    by_instr None stands =
        absurd (is.sound (Reserved u) (record { unit = u; reached = reached; has = word_here code u }, both (is_code code u) (is_none (instr_at code u)) (way_code code is_any entry u reached.us (leads_code code) reached.way) (ap is_none stands)))

pub reached_unit : (code : Code) (entry : ℕ) (g : Flow) (u : ℕ) → IsGraph code entry g → Reached code entry u → IsUnitIn g u
reached_unit code entry g u is reached = let s = unit_stands code entry g u is reached in by_control s.0 s.1 (is_control_instr s.0) refl
  where
    by_control : (i : Instr) → instr_at code u ≡ Some i → (b : Bool) → is_control_instr i ≡ b → IsUnitIn g u
    by_control i stands true control =
        let unit : FlowUnit = record { at = u; length = 8; first = i; slot = instr_at code (u + 4) } in
        to_map (λ (x : FlowUnit). x.at) g.units unit ((is.units_are unit).1 (record { reached = reached; first = stands; shape = subst (HasShape code unit) (sym control) (refl, refl) }))
    by_control i stands false plain =
        let unit : FlowUnit = record { at = u; length = 4; first = i; slot = None } in
        to_map (λ (x : FlowUnit). x.at) g.units unit ((is.units_are unit).1 (record { reached = reached; first = stands; shape = subst (HasShape code unit) (sym plain) (refl, refl) }))
