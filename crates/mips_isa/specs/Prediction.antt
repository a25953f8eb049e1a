-- Which way a branch goes: those that go the same way in every state, and the static prediction. The meaning of
-- the conditions is that of the MIPS32 manual, volume II; the prediction is this project's own.
use Rattle.std.specs.Prelude.{ℕ, ◌^◌, Bool, true, false, nat_le, ◌==◌, Option, Some, None, is_some, if◌then◌else◌}
use Rattle.mips_isa.specs.declared.instr.Instr.{Instr}
use Rattle.mips_isa.specs.declared.instr.Instr.TheVariants.{Branch2, Branch1}
use Rattle.mips_isa.specs.declared.instr.Branch1Op.{Branch1Op}
use Rattle.mips_isa.specs.declared.instr.Branch1Op.TheVariants.{Blez, Bgtz, Bltz, Bgez}
use Rattle.mips_isa.specs.declared.instr.Branch2Op.{Branch2Op}
use Rattle.mips_isa.specs.declared.instr.Branch2Op.TheVariants.{Beq, Bne}

-- a branch that compares a register with itself
abbrev pub single_edge2 : Branch2Op → Bool → Option Bool
single_edge2 Beq same = if same then Some true else None
single_edge2 Bne same = if same then Some false else None

-- a branch that compares register 0, which reads zero, with zero
abbrev pub single_edge1 : Branch1Op → Bool → Option Bool
single_edge1 Blez zero = if zero then Some true else None
single_edge1 Bgez zero = if zero then Some true else None
single_edge1 Bltz zero = if zero then Some false else None
single_edge1 Bgtz zero = if zero then Some false else None
single_edge1 m zero = None

-- the way of an instruction that can go one way alone, taken or not; none where it can go both ways, or is no branch
unfoldable pub single_edge_of : Instr → Option Bool
single_edge_of (Branch2 m rs rt off) = single_edge2 m (rs == rt)
single_edge_of (Branch1 m rs off) = single_edge1 m (rs == 0)
single_edge_of i = None

abbrev pub has_single_edge : Instr → Bool
has_single_edge i = is_some (single_edge_of i)

-- whether a field `off` is negative: a branch back
abbrev pub goes_back : ℕ → Bool
goes_back off = nat_le (2 ^ 15) off

-- the one way where there is one, else back
abbrev pub predicted_by : Option Bool → ℕ → Bool
predicted_by None off = goes_back off
predicted_by (Some taken) off = taken

-- the static prediction, whether a branch is taken
unfoldable pub predicted_taken_of : Instr → Bool
predicted_taken_of (Branch2 m rs rt off) = predicted_by (single_edge2 m (rs == rt)) off
predicted_taken_of (Branch1 m rs off) = predicted_by (single_edge1 m (rs == 0)) off
predicted_taken_of i = false
