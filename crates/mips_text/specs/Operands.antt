-- The texts of instructions: a mnemonic, a space, and the operands in the order of the manual's assembler formats. Registers are
-- `$n`, numbers canonical decimals, targets eight lower-case hexadecimal digits. Source of the order: MIPS32 manual, volume II; the
-- notation of registers and targets is this project's own.
use Rattle.std.specs.Prelude.{ℕ, List, [], ◌∷◌, ◌++◌, decimal}
use Rattle.std.specs.Fmt.{signed_decimal}
use Rattle.std.specs.Int.{cast_signed, w16}
use Rattle.std.specs.List.{flat_map}
use Rattle.mips_isa.specs.declared.instr.Instr.{Instr}
use Rattle.mips_isa.specs.declared.instr.Instr.TheVariants.{R3, Shift, Acc, HiLo, Count, Imm, Lui, Load, Store, Pref, Branch2, Branch1, Jump, Jr, Jalr, TrapIf, Stop, Sync}
use Rattle.mips_isa.specs.declared.instr.R3Op.{R3Op}
use Rattle.mips_isa.specs.declared.instr.R3Op.TheVariants.{Sllv, Srlv, Srav}
use Rattle.mips_isa.specs.declared.instr.HiLoOp.{HiLoOp}
use Rattle.mips_isa.specs.declared.instr.HiLoOp.TheVariants.{Mfhi, Mflo, Mthi, Mtlo}
use Rattle.mips_isa.specs.declared.instr.ImmOp.{ImmOp}
use Rattle.mips_isa.specs.declared.instr.ImmOp.TheVariants.{Andi, Ori, Xori}
use Rattle.mips_isa.specs.Words.{branch_target, jump_target}
use Rattle.text_fields.specs.Lines.{space}
use Rattle.text_fields.specs.Numbers.{hex_text}
use Rattle.mips_text.specs.declared.piece.Piece.{Piece}
use Rattle.mips_text.specs.declared.piece.Piece.TheVariants.{Comma, Open, Close, Register, Number, Signed, Address}
use Rattle.mips_text.specs.Mnemonics.{name_of}

-- what is written for a piece; a signed number is given by its sixteen bits
unfoldable pub piece_text : Piece → List ℕ
piece_text Comma = 44 ∷ []
piece_text Open = 40 ∷ []
piece_text Close = 41 ∷ []
piece_text (Register n) = 36 ∷ decimal n
piece_text (Number n) = decimal n
piece_text (Signed bits) = signed_decimal (cast_signed w16 bits)
piece_text (Address a) = hex_text a

-- two and three operands
abbrev pub two : Piece → Piece → List Piece
two a b = a ∷ Comma ∷ b ∷ []

abbrev pub three : Piece → Piece → Piece → List Piece
three a b c = a ∷ Comma ∷ b ∷ Comma ∷ c ∷ []

-- an operand, and an offset from a base register
abbrev pub based : Piece → ℕ → ℕ → List Piece
based a off base = a ∷ Comma ∷ Signed off ∷ Open ∷ Register base ∷ Close ∷ []

-- a shift by a register names the shifted one first
abbrev pub r3_operands : R3Op → ℕ → ℕ → ℕ → List Piece
r3_operands Sllv rs rt rd = three (Register rd) (Register rt) (Register rs)
r3_operands Srlv rs rt rd = three (Register rd) (Register rt) (Register rs)
r3_operands Srav rs rt rd = three (Register rd) (Register rt) (Register rs)
r3_operands m rs rt rd = three (Register rd) (Register rs) (Register rt)

-- a move from HI or LO names where it goes, and a move there whence it comes
abbrev pub hi_lo_operand : HiLoOp → ℕ → ℕ → List Piece
hi_lo_operand Mfhi rs rd = Register rd ∷ []
hi_lo_operand Mflo rs rd = Register rd ∷ []
hi_lo_operand Mthi rs rd = Register rs ∷ []
hi_lo_operand Mtlo rs rd = Register rs ∷ []

-- the logical instructions take sixteen bits without a sign
abbrev pub immediate : ImmOp → ℕ → Piece
immediate Andi imm = Number imm
immediate Ori imm = Number imm
immediate Xori imm = Number imm
immediate m imm = Signed imm

-- the operands of an instruction at an address
unfoldable pub operands : Instr → ℕ → List Piece
operands (R3 m rs rt rd) at = r3_operands m rs rt rd
operands (Shift m rt rd sa) at = three (Register rd) (Register rt) (Number sa)
operands (Acc m rs rt) at = two (Register rs) (Register rt)
operands (HiLo m rs rd) at = hi_lo_operand m rs rd
operands (Count m rs rd) at = two (Register rd) (Register rs)
operands (Imm m rs rt imm) at = three (Register rt) (Register rs) (immediate m imm)
operands (Lui rt imm) at = two (Register rt) (Number imm)
operands (Load m rs rt off) at = based (Register rt) off rs
operands (Store m rs rt off) at = based (Register rt) off rs
operands (Pref rs hint off) at = based (Number hint) off rs
operands (Branch2 m rs rt off) at = three (Register rs) (Register rt) (Address (branch_target at off))
operands (Branch1 m rs off) at = two (Register rs) (Address (branch_target at off))
operands (Jump m target) at = Address (jump_target at target) ∷ []
operands (Jr rs) at = Register rs ∷ []
operands (Jalr rs rd) at = two (Register rd) (Register rs)
operands (TrapIf m rs rt code) at = three (Register rs) (Register rt) (Number code)
operands (Stop m code) at = Number code ∷ []
operands (Sync stype) at = Number stype ∷ []

abbrev pub pieces_text : List Piece → List ℕ
pieces_text pieces = flat_map piece_text pieces

-- the text of an instruction at an address
unfoldable pub instr_text : Instr → ℕ → List ℕ
instr_text i at = name_of i ++ space ∷ pieces_text (operands i at)
