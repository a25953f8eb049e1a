-- What a function, or one that it calls directly or through others, may write. This project's own.
use Rattle.std.specs.Prelude.{◌≡◌, ◌<◌, ◌↔◌, ℕ, Bool, true, Some}
use Rattle.visa_io.specs.declared.records.Code.{Code}
use Rattle.mips_isa.specs.Names.{writes_of}
use Rattle.mips_isa.specs.declared.instr.Instr.{Instr}
use Rattle.flow_graph.specs.Code.{instr_at}
use Rattle.flow_graph.specs.Faults.{is_word_of}
use Rattle.flow_graph.specs.Reached.{CallsAt, IsFunction, IsUnitOf}

-- a function itself, those that it calls, those that these call, and so on
pub data Enters (code : Code) (function : ℕ) : ℕ → Type 0 where
  Itself : Enters code function function
  Through : (g u h : ℕ) → Enters code function g → IsUnitOf code g u → CallsAt code u h → Enters code function h

-- some unit of these has an instruction that writes a register
pub record MayWrite (code : Code) (function register : ℕ) : Type 0 where
  pub inside : ℕ
  pub enters : Enters code function inside
  pub unit : ℕ
  pub member : IsUnitOf code inside unit
  pub at : ℕ
  pub word : is_word_of code unit at ≡ true
  pub instr : Instr
  pub stands : instr_at code at ≡ Some instr
  pub writes : writes_of instr ≡ Some register

-- masks that tell this of the functions of a graph
abbrev pub AreMasks : Code → ℕ → (ℕ → ℕ → Bool) → Type 0
AreMasks code entry mask = (f r : ℕ) → IsFunction code entry f → r < 32 → (mask f r ≡ true) ↔ MayWrite code f r
