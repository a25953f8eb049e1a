-- Units whose instructions stand in code. This project's own.
use Rattle.std.specs.Prelude.{◌≡◌, ◌<◌, ◌+◌, ◌^◌, IfSome, Some}
use Rattle.mips_isa.specs.Fits.{FieldsFit}
use Rattle.mips_isa.specs.declared.instr.Instr.{Instr}
use Rattle.flow_graph.specs.declared.parts.Unit.{Unit as FlowUnit}

pub record IsSoundUnit (unit : FlowUnit) : Type 0 where
  pub first : FieldsFit unit.first
  pub slot : IfSome unit.slot FieldsFit
  pub low : (s : Instr) → unit.slot ≡ Some s → unit.at + 4 < 2 ^ 32
