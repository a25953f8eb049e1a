-- The short way through a step whose instruction writes a general register and does nothing else. Working definitions.
use Rattle.std.specs.Prelude.{ℕ, List, Option, Some, None, ◌==◌, if◌then◌else◌, slice_set}
use Rattle.mips_isa.specs.Words.{low_word}
use Rattle.mips_isa.specs.declared.instr.Instr.{Instr}
use Rattle.mips_isa.specs.declared.instr.Instr.TheVariants.{R3, Shift, Acc, HiLo, Count, Imm, Lui, Load, Store, Pref, Branch2, Branch1, Jump, Jr, Jalr, TrapIf, Stop, Sync}
use Rattle.mips_ref.specs.Mips.{Mips}
use Rattle.mips_ref.specs.Step.{Stepped, trapped}
use Rattle.mips_ref.specs.declared.records.Act.{Act}
use Rattle.mips_ref.specs.declared.records.Step.TheVariants.{Went}
use Rattle.mips_ref.specs.declared.records.TrapKind.{TrapKind}

-- the register of such an instruction
abbrev pub computes : Instr → Option ℕ
computes (R3 m rs rt rd) = Some rd
computes (Shift m rt rd sa) = Some rd
computes (Count m rs rd) = Some rd
computes (Imm m rs rt imm) = Some rt
computes (Lui rt imm) = Some rt
computes other = None

-- the registers once it has the value that is given for it, if one is; register 0 keeps its own
abbrev pub with_register : ℕ → Option ℕ → List ℕ → List ℕ
with_register r None registers = registers
with_register r (Some value) registers = if r == 0 then registers else slice_set registers r (low_word value)

abbrev pub unless_overflown : Option TrapKind → ℕ → Act → Mips → Stepped
unless_overflown (Some kind) r a x = trapped kind x
unless_overflown None r a x =
    record { answer = Went; state = record x { registers = with_register r a.write x.registers; pc = x.next_pc; next_pc = a.next } }

-- what the step comes to, by what the instruction does
abbrev pub computed : ℕ → Act → Mips → Stepped
computed r a x = unless_overflown a.trap r a x
