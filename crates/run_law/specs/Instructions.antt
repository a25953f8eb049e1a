-- belongs in mips_isa (the first three) and mips_ref (the last).
-- Which control instructions a flow graph has, and where they go. Source: MIPS32 manual, volume II, "Operation" of
-- each instruction.
use Rattle.std.specs.Prelude.{ℕ, Bool, true, false, ◌==◌, Option, Some, None}
use Rattle.mips_isa.specs.Decoding.{decode_of}
use Rattle.mips_isa.specs.Words.{branch_target, jump_target}
use Rattle.mips_isa.specs.declared.instr.Instr.{Instr}
use Rattle.mips_isa.specs.declared.instr.Instr.TheVariants.{Branch2, Branch1, Jump, Jr, Jalr}
use Rattle.mips_isa.specs.declared.instr.Branch1Op.TheVariants.{Bltzal, Bgezal}
use Rattle.mips_ref.specs.Memory.{Flat, code_word_at}

-- no jump to a register but the return, and no branch that links but the call bgezal of register 0
unfoldable pub is_direct : Instr → Bool
is_direct (Jalr rs rd) = false
is_direct (Jr rs) = rs == 31
is_direct (Branch1 Bltzal rs off) = false
is_direct (Branch1 Bgezal rs off) = rs == 0
is_direct _ = true

-- where a taken branch, a jump or a call at an address goes
unfoldable pub target_of : Instr → ℕ → ℕ
target_of (Branch2 m rs rt off) at = branch_target at off
target_of (Branch1 m rs off) at = branch_target at off
target_of (Jump m target) at = jump_target at target
target_of _ at = 0

abbrev pub decoded : Option ℕ → Option Instr
decoded None = None
decoded (Some word) = decode_of word

-- the instruction at an address of code
abbrev pub instruction_at : Flat → ℕ → Option Instr
instruction_at m at = decoded (code_word_at m at)
