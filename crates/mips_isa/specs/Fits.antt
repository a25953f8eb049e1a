-- Which instructions have a word. Source: MIPS32 manual, volume II, the widths of the fields of each
-- instruction's format.
use Rattle.std.specs.Prelude.{◌≡◌, ◌<◌, ◌^◌}
use Rattle.mips_isa.specs.declared.instr.Instr.{Instr}
use Rattle.mips_isa.specs.declared.instr.Instr.TheVariants.{R3, Shift, Acc, HiLo, Count, Imm, Lui, Load, Store, Pref, Branch2, Branch1, Jump, Jr, Jalr, TrapIf, Stop, Sync}
use Rattle.mips_isa.specs.declared.instr.HiLoOp.TheVariants.{Mfhi, Mflo, Mthi, Mtlo}

-- each field is as narrow as its place in the word: five bits for a register, sa, hint and stype, sixteen for
-- imm and off, 26 for a jump's target, ten for the code of a trap, twenty for the code of a stop; a move from
-- or to HI or LO has 0 in the field that it doesn't use
abbrev pub FieldsFit : Instr → Type 0
FieldsFit (R3 m rs rt rd) = (rs < 32) × (rt < 32) × (rd < 32)
FieldsFit (Shift m rt rd sa) = (rt < 32) × (rd < 32) × (sa < 32)
FieldsFit (Acc m rs rt) = (rs < 32) × (rt < 32)
FieldsFit (HiLo Mfhi rs rd) = (rs ≡ 0) × (rd < 32)
FieldsFit (HiLo Mflo rs rd) = (rs ≡ 0) × (rd < 32)
FieldsFit (HiLo Mthi rs rd) = (rs < 32) × (rd ≡ 0)
FieldsFit (HiLo Mtlo rs rd) = (rs < 32) × (rd ≡ 0)
FieldsFit (Count m rs rd) = (rs < 32) × (rd < 32)
FieldsFit (Imm m rs rt imm) = (rs < 32) × (rt < 32) × (imm < 2 ^ 16)
FieldsFit (Lui rt imm) = (rt < 32) × (imm < 2 ^ 16)
FieldsFit (Load m rs rt off) = (rs < 32) × (rt < 32) × (off < 2 ^ 16)
FieldsFit (Store m rs rt off) = (rs < 32) × (rt < 32) × (off < 2 ^ 16)
FieldsFit (Pref rs hint off) = (rs < 32) × (hint < 32) × (off < 2 ^ 16)
FieldsFit (Branch2 m rs rt off) = (rs < 32) × (rt < 32) × (off < 2 ^ 16)
FieldsFit (Branch1 m rs off) = (rs < 32) × (off < 2 ^ 16)
FieldsFit (Jump m target) = target < 2 ^ 26
FieldsFit (Jr rs) = rs < 32
FieldsFit (Jalr rs rd) = (rs < 32) × (rd < 32)
FieldsFit (TrapIf m rs rt code) = (rs < 32) × (rt < 32) × (code < 2 ^ 10)
FieldsFit (Stop m code) = code < 2 ^ 20
FieldsFit (Sync stype) = stype < 32
