-- The words of code that a machine has decoded. Working definitions.
use Rattle.std.specs.Prelude.{ℕ, ◌+◌, ◌≤◌, ◌≡◌, ◌⊎◌, Bool, true, false, List, Option, None, Some, slice_index_or}
use Rattle.mips_isa.specs.Decoding.{decode_of}
use Rattle.mips_isa.specs.declared.instr.Instr.{Instr}
use Rattle.mips_ref.specs.Memory.{Flat, code_word_at, port}
use Rattle.mips_ref.specs.declared.decoded.Decoded.{Decoded}

-- some line has this instruction for an address
abbrev pub HasLine : List (Option Decoded) → ℕ → Instr → Type 0
HasLine lines at i = (k : ℕ) × (slice_index_or lines k None ≡ Some (record { at = at; instr = i }))

-- a line is as it was, or has this instruction for this address
abbrev pub IsKeptLine : List (Option Decoded) → ℕ → ℕ → Instr → Decoded → Type 0
IsKeptLine lines k at i line = (slice_index_or lines k None ≡ Some line) ⊎ (line ≡ record { at = at; instr = i })

-- the word at an address is this instruction's
pub record IsInstrAt (m : Flat) (at : ℕ) (i : Instr) : Type 0 where
  pub word : ℕ
  pub found : code_word_at m at ≡ Some word
  pub decoded : decode_of word ≡ Some i
  pub below_port : at + 4 ≤ port

-- there is no instruction at an address: no code, or a word that is none
abbrev pub HasNoInstr : Flat → ℕ → Bool → Type 0
HasNoInstr m at false = code_word_at m at ≡ None
HasNoInstr m at true = (word : ℕ) × (code_word_at m at ≡ Some word) × (decode_of word ≡ None) × (at + 4 ≤ port)

-- each line has the instruction at its address
abbrev pub AreDecoded : Flat → List (Option Decoded) → Type 0
AreDecoded m lines = (k : ℕ) (line : Decoded) → slice_index_or lines k None ≡ Some line → IsInstrAt m line.at line.instr
