-- belongs in mips_isa
-- Branches that go one way alone. Source: MIPS32 manual, volume II, the conditions of the branches.
use Rattle.std.specs.Prelude.{Bool, true, false, Option, Some, None, ◌==◌, if◌then◌else◌}
use Rattle.mips_isa.specs.declared.instr.Instr.{Instr}
use Rattle.mips_isa.specs.declared.instr.Instr.TheVariants.{Branch1, Branch2}
use Rattle.mips_isa.specs.declared.instr.Branch1Op.{Branch1Op}
use Rattle.mips_isa.specs.declared.instr.Branch1Op.TheVariants.{Blez, Bgtz, Bltz, Bgez}
use Rattle.mips_isa.specs.declared.instr.Branch2Op.{Branch2Op}
use Rattle.mips_isa.specs.declared.instr.Branch2Op.TheVariants.{Beq, Bne}

-- the outcome of a comparison of a register with itself
abbrev pub outcome_of_equal : Branch2Op → Bool
outcome_of_equal Beq = true
outcome_of_equal Bne = false

-- the outcome of a comparison of zero with zero, of a branch that doesn't link
abbrev pub outcome_of_zero : Branch1Op → Option Bool
outcome_of_zero Blez = Some true
outcome_of_zero Bgez = Some true
outcome_of_zero Bgtz = Some false
outcome_of_zero Bltz = Some false
outcome_of_zero m = None

-- whether a branch is taken, where its registers decide that alone: a register against itself, or register 0 against zero
unfoldable pub lone_outcome : Instr → Option Bool
lone_outcome (Branch2 m rs rt off) = if rs == rt then Some (outcome_of_equal m) else None
lone_outcome (Branch1 m rs off) = if rs == 0 then outcome_of_zero m else None
lone_outcome i = None
