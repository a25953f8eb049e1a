-- How operands and the forms of instructions are read.
use Rattle.std.specs.Prelude.{◌≡◌, ℕ, ◌+◌, ◌-◌, ◌*◌, ◌≤◌, ◌<◌, ◌^◌, true, false, List, [], ◌∷◌, ◌++◌, decimal}
use Rattle.std.specs.Fmt.{signed_decimal}
use Rattle.std.specs.Int.{cast_signed, w16}
use Rattle.std.specs.Char.{is_ascii_digit}
use Rattle.mips_isa.specs.Words.{branch_target, jump_target}
use Rattle.text_fields.specs.Numbers.{digit_zero, hex_text}
use Rattle.mips_text.specs.Faults.{IsWord}
use Rattle.mips_text.specs.declared.form.Operand.{Operand}
use Rattle.mips_text.specs.declared.form.Operand.TheVariants as o
use Rattle.mips_text.specs.declared.form.Form.{Form}
use Rattle.mips_text.specs.declared.form.Form.TheVariants as f

-- nothing, or what doesn't begin with a digit
abbrev pub HasNoDigitFirst : List ℕ → Type 0
HasNoDigitFirst [] = Unit {0}
HasNoDigitFirst (c ∷ rest) = is_ascii_digit c ≡ false

-- the texts of the numbers of a range
pub record IsNumberOf (least most : ℕ) (text : List ℕ) : Type 0 where
  pub value : ℕ
  pub low : least ≤ value
  pub high : value ≤ most
  pub is : text ≡ decimal value

-- and these with more behind them that is no digit
pub record OpensNumber (least most : ℕ) (text : List ℕ) : Type 0 where
  pub value : ℕ
  pub low : least ≤ value
  pub high : value ≤ most
  pub rest : List ℕ
  pub plain : HasNoDigitFirst rest
  pub is : text ≡ decimal value ++ rest

-- no digit more makes a greater number of the range
abbrev pub IsLongest : ℕ → ℕ → List ℕ → Type 0
IsLongest most value [] = Unit {0}
IsLongest most value (c ∷ rest) = is_ascii_digit c ≡ true → 0 < value → most < value * 10 + (c - digit_zero)

pub record IsNumberRead (least most : ℕ) (text : List ℕ) (value : ℕ) (rest : List ℕ) : Type 0 where
  pub low : least ≤ value
  pub high : value ≤ most
  pub is : text ≡ decimal value ++ rest
  pub longest : IsLongest most value rest

-- an operand's value is in its range; a signed number is given by its sixteen bits, a target by its field
abbrev pub OperandFits : Operand → ℕ → Type 0
OperandFits o.Register v = v < 32
OperandFits (o.Number most) v = (v ≤ most) × (v < 2 ^ 32)
OperandFits o.Signed v = v < 2 ^ 16
OperandFits o.Branch v = v < 2 ^ 16
OperandFits o.Jump v = v < 2 ^ 26

-- the text of an operand of an instruction at an address
abbrev pub operand_text : Operand → ℕ → ℕ → List ℕ
operand_text o.Register at v = 36 ∷ decimal v
operand_text (o.Number most) at v = decimal v
operand_text o.Signed at v = signed_decimal (cast_signed w16 v)
operand_text o.Branch at v = hex_text (branch_target at v)
operand_text o.Jump at v = hex_text (jump_target at v)

-- the texts of an operand
pub record IsOperand (o : Operand) (at : ℕ) (text : List ℕ) : Type 0 where
  pub value : ℕ
  pub fits : OperandFits o value
  pub is : text ≡ operand_text o at value

-- and these with more behind them that is no digit
pub record OpensOperand (o : Operand) (at : ℕ) (text : List ℕ) : Type 0 where
  pub value : ℕ
  pub fits : OperandFits o value
  pub rest : List ℕ
  pub plain : HasNoDigitFirst rest
  pub is : text ≡ operand_text o at value ++ rest

-- a value read off a text, which no digit more can be part of
pub record IsOperandRead (o : Operand) (at : ℕ) (text : List ℕ) (value : ℕ) (rest : List ℕ) : Type 0 where
  pub fits : OperandFits o value
  pub is : text ≡ operand_text o at value ++ rest
  pub ends : (c : ℕ) (others more : List ℕ) → rest ≡ c ∷ others → is_ascii_digit c ≡ true → ¬ (OpensOperand o at (operand_text o at value ++ c ∷ more))

-- an operand, a mark, and a text of a set
pub record Chain (o : Operand) (mark at : ℕ) (T : List ℕ → Type 0) (text : List ℕ) : Type 0 where
  pub value : ℕ
  pub fits : OperandFits o value
  pub rest : List ℕ
  pub tail : T rest
  pub is : text ≡ operand_text o at value ++ mark ∷ rest

-- an operand and a mark, and these with anything behind them
pub record IsMarked (o : Operand) (mark at : ℕ) (text : List ℕ) : Type 0 where
  pub value : ℕ
  pub fits : OperandFits o value
  pub is : text ≡ operand_text o at value ++ mark ∷ []

pub record OpensMarked (o : Operand) (mark at : ℕ) (text : List ℕ) : Type 0 where
  pub value : ℕ
  pub fits : OperandFits o value
  pub rest : List ℕ
  pub is : text ≡ operand_text o at value ++ mark ∷ rest

-- the texts of an operand, then a comma and another one; of three; of one, then an offset from a base register
abbrev pub IsPair : Operand → Operand → ℕ → List ℕ → Type 0
IsPair a b at = Chain a 44 at (IsOperand b at)

abbrev pub IsTriple : Operand → Operand → Operand → ℕ → List ℕ → Type 0
IsTriple a b c at = Chain a 44 at (IsPair b c at)

abbrev pub IsClosed : ℕ → List ℕ → Type 0
IsClosed at = Chain o.Register 41 at (IsWord [])

abbrev pub IsOffset : ℕ → List ℕ → Type 0
IsOffset at = Chain o.Signed 40 at (IsClosed at)

abbrev pub IsBased : Operand → ℕ → List ℕ → Type 0
IsBased a at = Chain a 44 at (IsOffset at)

-- the text of a form with its operands' values
abbrev pub form_text : Form → ℕ → ℕ → ℕ → ℕ → List ℕ
form_text (f.One p) at a b c = operand_text p at a
form_text (f.Two p q) at a b c = operand_text p at a ++ 44 ∷ operand_text q at b
form_text (f.Three p q r) at a b c = operand_text p at a ++ 44 ∷ (operand_text q at b ++ 44 ∷ operand_text r at c)
form_text (f.Based p) at a b c = operand_text p at a ++ 44 ∷ (operand_text o.Signed at b ++ 40 ∷ (operand_text o.Register at c ++ 41 ∷ []))

-- the values fit; what the form doesn't have is 0
abbrev pub FormFits : Form → ℕ → ℕ → ℕ → Type 0
FormFits (f.One p) a b c = OperandFits p a × (b ≡ 0) × (c ≡ 0)
FormFits (f.Two p q) a b c = OperandFits p a × OperandFits q b × (c ≡ 0)
FormFits (f.Three p q r) a b c = OperandFits p a × OperandFits q b × OperandFits r c
FormFits (f.Based p) a b c = OperandFits p a × (b < 2 ^ 16) × (c < 32)

pub record IsFormText (form : Form) (at : ℕ) (text : List ℕ) : Type 0 where
  pub a : ℕ
  pub b : ℕ
  pub c : ℕ
  pub fits : FormFits form a b c
  pub is : text ≡ form_text form at a b c
