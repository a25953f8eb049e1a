-- Which texts are those of instructions at an address, and how far a text that is none begins one.
use Rattle.std.specs.Prelude.{◌≡◌, ℕ, ◌+◌, ◌-◌, ◌≤◌, ◌<◌, List, ◌++◌, length, take}
use Rattle.mips_isa.specs.Fits.{FieldsFit}
use Rattle.mips_isa.specs.declared.instr.Instr.{Instr}
use Rattle.mips_text.specs.Operands.{instr_text}

-- a text is that of an instruction
pub record IsTextOf (at : ℕ) (text : List ℕ) (i : Instr) : Type 0 where
  pub fits : FieldsFit i
  pub is : text ≡ instr_text i at

-- the text of some instruction begins with these bytes
pub record IsBeginning (at : ℕ) (bytes : List ℕ) : Type 0 where
  pub instr : Instr
  pub fits : FieldsFit instr
  pub more : List ℕ
  pub is : bytes ++ more ≡ instr_text instr at

-- the first column, counted from 1, with which no text of an instruction begins; that behind the end where the text only ends early
pub record IsFirstFault (at : ℕ) (text : List ℕ) (column : ℕ) : Type 0 where
  pub counted : 0 < column
  pub within : column ≤ length text + 1
  pub begins : IsBeginning at (take (column - 1) text)
  pub stops : column ≤ length text → ¬ (IsBeginning at (take column text))

-- the texts of instructions
pub record IsInstrText (at : ℕ) (text : List ℕ) : Type 0 where
  pub instr : Instr
  pub told : IsTextOf at text instr
