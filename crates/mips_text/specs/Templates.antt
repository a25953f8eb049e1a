-- An instruction by its form and the values of its operands, in the order of its text.
use Rattle.std.specs.Prelude.{◌≡◌, ◌<◌, ℕ, List, Contains, slice_index_or}
use Rattle.mips_isa.specs.declared.instr.Instr.{Instr}
use Rattle.mips_isa.specs.declared.instr.Instr.TheVariants.{R3, Shift, Acc, HiLo, Count, Imm, Lui, Load, Store, Pref, Branch2, Branch1, Jump, Jr, Jalr, TrapIf, Stop, Sync}
use Rattle.mips_isa.specs.declared.instr.R3Op.{R3Op}
use Rattle.mips_isa.specs.declared.instr.R3Op.TheVariants.{Sllv, Srlv, Srav}
use Rattle.mips_isa.specs.declared.instr.HiLoOp.{HiLoOp}
use Rattle.mips_isa.specs.declared.instr.HiLoOp.TheVariants.{Mfhi, Mflo, Mthi, Mtlo}
use Rattle.mips_isa.specs.declared.instr.ImmOp.{ImmOp}
use Rattle.mips_isa.specs.declared.instr.ImmOp.TheVariants.{Andi, Ori, Xori}
use Rattle.mips_text.specs.declared.form.Operand.{Operand}
use Rattle.mips_text.specs.declared.form.Operand.TheVariants as o
use Rattle.mips_text.specs.declared.form.Form.{Form}
use Rattle.mips_text.specs.declared.form.Form.TheVariants as f
use Rattle.mips_text.specs.Forms.{FormFits}
use Rattle.mips_text.specs.Operands.{instr_text}

-- the logical instructions take sixteen bits without a sign
abbrev pub immediate_kind : ImmOp → Operand
immediate_kind Andi = o.Number 65535
immediate_kind Ori = o.Number 65535
immediate_kind Xori = o.Number 65535
immediate_kind m = o.Signed

-- the form of an instruction's text
unfoldable pub form_of : Instr → Form
form_of (R3 m rs rt rd) = f.Three o.Register o.Register o.Register
form_of (Shift m rt rd sa) = f.Three o.Register o.Register (o.Number 31)
form_of (Acc m rs rt) = f.Two o.Register o.Register
form_of (HiLo m rs rd) = f.One o.Register
form_of (Count m rs rd) = f.Two o.Register o.Register
form_of (Imm m rs rt imm) = f.Three o.Register o.Register (immediate_kind m)
form_of (Lui rt imm) = f.Two o.Register (o.Number 65535)
form_of (Load m rs rt off) = f.Based o.Register
form_of (Store m rs rt off) = f.Based o.Register
form_of (Pref rs hint off) = f.Based (o.Number 31)
form_of (Branch2 m rs rt off) = f.Three o.Register o.Register o.Branch
form_of (Branch1 m rs off) = f.Two o.Register o.Branch
form_of (Jump m target) = f.One o.Jump
form_of (Jr rs) = f.One o.Register
form_of (Jalr rs rd) = f.Two o.Register o.Register
form_of (TrapIf m rs rt code) = f.Three o.Register o.Register (o.Number 1023)
form_of (Stop m code) = f.One (o.Number 1048575)
form_of (Sync stype) = f.One (o.Number 31)

-- a shift by a register names the shifted one first
abbrev pub filled_r3 : R3Op → ℕ → ℕ → ℕ → Instr
filled_r3 Sllv a b c = R3 Sllv c b a
filled_r3 Srlv a b c = R3 Srlv c b a
filled_r3 Srav a b c = R3 Srav c b a
filled_r3 m a b c = R3 m b c a

-- a move from HI or LO names where it goes, and a move there whence it comes
abbrev pub filled_hi_lo : HiLoOp → ℕ → Instr
filled_hi_lo Mfhi a = HiLo Mfhi 0 a
filled_hi_lo Mflo a = HiLo Mflo 0 a
filled_hi_lo Mthi a = HiLo Mthi a 0
filled_hi_lo Mtlo a = HiLo Mtlo a 0

-- the instruction of the same mnemonic with these operands
unfoldable pub filled : Instr → ℕ → ℕ → ℕ → Instr
filled (R3 m rs rt rd) a b c = filled_r3 m a b c
filled (Shift m rt rd sa) a b c = Shift m b a c
filled (Acc m rs rt) a b c = Acc m a b
filled (HiLo m rs rd) a b c = filled_hi_lo m a
filled (Count m rs rd) a b c = Count m b a
filled (Imm m rs rt imm) a b c = Imm m b a c
filled (Lui rt imm) a b c = Lui a b
filled (Load m rs rt off) a b c = Load m c a b
filled (Store m rs rt off) a b c = Store m c a b
filled (Pref rs hint off) a b c = Pref c a b
filled (Branch2 m rs rt off) a b c = Branch2 m a b c
filled (Branch1 m rs off) a b c = Branch1 m a b
filled (Jump m target) a b c = Jump m a
filled (Jr rs) a b c = Jr a
filled (Jalr rs rd) a b c = Jalr b a
filled (TrapIf m rs rt code) a b c = TrapIf m a b c
filled (Stop m code) a b c = Stop m a
filled (Sync stype) a b c = Sync a

-- one instruction of each mnemonic, with zeros in its fields
abbrev pub HasEachMnemonic : List Instr → Type 0
HasEachMnemonic templates = (i : Instr) → Contains templates (filled i 0 0 0)

-- the texts of a template's mnemonic at an address
pub record IsTemplateText (t : Instr) (at : ℕ) (text : List ℕ) : Type 0 where
  pub a : ℕ
  pub b : ℕ
  pub c : ℕ
  pub fits : FormFits (form_of t) a b c
  pub is : text ≡ instr_text (filled t a b c) at

-- of the first so many templates
pub record IsAmongFirst (templates : List Instr) (count at : ℕ) (text : List ℕ) : Type 0 where
  pub template : Instr
  pub index : ℕ
  pub below : index < count
  pub there : slice_index_or templates index template ≡ template
  pub named : IsTemplateText template at text
