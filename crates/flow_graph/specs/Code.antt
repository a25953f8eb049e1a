-- The words and instructions that stand at addresses of code. This project's own.
use Rattle.std.specs.Prelude.{ℕ, ◌+◌, ◌-◌, ◌/◌, ◌%◌, ◌^◌, ◌≤◌, ◌≡◌, Bool, true, false, ◌&&◌, ◌==◌, nat_le, nat_lt, if◌then◌else◌, Option, Some, None, is_some, List, [], ◌∷◌, All, AllPairs, drop, slice_get}
use Rattle.std.specs.Option.{option_and_then}
use Rattle.visa_io.specs.declared.records.Span.{Span}
use Rattle.visa_io.specs.declared.records.Code.{Code}
use Rattle.visa_io.specs.ImageCode.{IsWhole}
use Rattle.mips_isa.specs.Decoding.{decode_of}
use Rattle.mips_isa.specs.Kinds.{kind_of, is_control}
use Rattle.mips_isa.specs.declared.instr.Instr.{Instr}

-- a span has an address
abbrev pub holds : Span → ℕ → Bool
holds span a = nat_le span.start a && nat_lt a (span.start + span.len)

-- no address is in both
abbrev pub IsApart : Span → Span → Type 0
IsApart one other = (a : ℕ) → holds one a ≡ true → holds other a ≡ false

-- what every code keeps: whole words, as many as its spans hold; no span ends past 2^32, and no two share an address
pub record IsCode (code : Code) : Type 0 where
  pub whole : IsWhole code
  pub ends : All (λ span. span.start + span.len ≤ 2 ^ 32) code.spans
  pub apart : AllPairs IsApart code.spans

-- the word at an address of a span's, where the words of the spans stand one after the other
unfoldable pub word_from : List Span → List ℕ → ℕ → Option ℕ
word_from [] words a = None
word_from (span ∷ rest) words a =
    if holds span a then slice_get words ((a - span.start) / 4) else word_from rest (drop (span.len / 4) words) a

-- the word at an address of code, which is a multiple of four in a span
abbrev pub word_at : Code → ℕ → Option ℕ
word_at code a = if a % 4 == 0 then word_from code.spans code.words a else None

abbrev pub is_code : Code → ℕ → Bool
is_code code a = is_some (word_at code a)

-- the instruction at an address of code; none where the word is reserved
unfoldable pub instr_at : Code → ℕ → Option Instr
instr_at code a = option_and_then decode_of (word_at code a)

-- an instruction that passes a test
abbrev pub passes : (Instr → Bool) → Option Instr → Bool
passes test None = false
passes test (Some i) = test i

-- an instruction that decides what follows its delay slot
abbrev pub is_control_instr : Instr → Bool
is_control_instr i = is_control (kind_of i)

abbrev pub is_control_at : Code → ℕ → Bool
is_control_at code a = passes is_control_instr (instr_at code a)
