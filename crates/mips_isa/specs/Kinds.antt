-- What an instruction is to a pipeline and to the analysis of control. This project's own grouping of MIPS32.
use Rattle.std.specs.Prelude.{ℕ, Bool, true, false, ◌==◌, if◌then◌else◌}
use Rattle.mips_isa.specs.declared.instr.Instr.{Instr}
use Rattle.mips_isa.specs.declared.instr.Instr.TheVariants as instr
use Rattle.mips_isa.specs.declared.instr.R3Op.{R3Op}
use Rattle.mips_isa.specs.declared.instr.R3Op.TheVariants as r3
use Rattle.mips_isa.specs.declared.instr.AccOp.{AccOp}
use Rattle.mips_isa.specs.declared.instr.AccOp.TheVariants as acc
use Rattle.mips_isa.specs.declared.instr.Branch1Op.{Branch1Op}
use Rattle.mips_isa.specs.declared.instr.Branch1Op.TheVariants.{Bgezal}
use Rattle.mips_isa.specs.declared.instr.JumpOp.{JumpOp}
use Rattle.mips_isa.specs.declared.instr.JumpOp.TheVariants.{J, Jal}
use Rattle.mips_isa.specs.declared.instr.Kind.{Kind}
use Rattle.mips_isa.specs.declared.instr.Kind.TheVariants as kind

-- of the members with three registers only mul is a multiplication
abbrev pub r3_kind : R3Op → Kind
r3_kind r3.Mul = kind.Mul
r3_kind m = kind.Plain

-- div and divu, and the products
abbrev pub acc_kind : AccOp → Kind
acc_kind acc.Div = kind.Div
acc_kind acc.Divu = kind.Div
acc_kind m = kind.Mul

-- a bgezal of register 0 always goes and links: a call
abbrev pub branch_kind : Branch1Op → ℕ → Kind
branch_kind Bgezal rs = if rs == 0 then kind.Call else kind.Branch
branch_kind m rs = kind.Branch

abbrev pub jump_kind : JumpOp → Kind
jump_kind J = kind.Jump
jump_kind Jal = kind.Call

-- a jump to register 31 is a return; a trap where a comparison holds is plain
unfoldable pub kind_of : Instr → Kind
kind_of (instr.R3 m rs rt rd) = r3_kind m
kind_of (instr.Shift m rt rd sa) = kind.Plain
kind_of (instr.Acc m rs rt) = acc_kind m
kind_of (instr.HiLo m rs rd) = kind.Plain
kind_of (instr.Count m rs rd) = kind.Plain
kind_of (instr.Imm m rs rt imm) = kind.Plain
kind_of (instr.Lui rt imm) = kind.Plain
kind_of (instr.Load m rs rt off) = kind.Load
kind_of (instr.Store m rs rt off) = kind.Store
kind_of (instr.Pref rs hint off) = kind.Plain
kind_of (instr.Branch2 m rs rt off) = kind.Branch
kind_of (instr.Branch1 m rs off) = branch_kind m rs
kind_of (instr.Jump m target) = jump_kind m
kind_of (instr.Jr rs) = if rs == 31 then kind.Return else kind.Indirect
kind_of (instr.Jalr rs rd) = kind.Call
kind_of (instr.TrapIf m rs rt code) = kind.Plain
kind_of (instr.Stop m code) = kind.Stop
kind_of (instr.Sync stype) = kind.Plain

-- an instruction of this kind decides what follows its delay slot
abbrev pub is_control : Kind → Bool
is_control kind.Branch = true
is_control kind.Jump = true
is_control kind.Call = true
is_control kind.Return = true
is_control kind.Indirect = true
is_control k = false
