-- The addresses of code, and what stands there, as lists.
use Rattle.std.specs.Prelude.{ℕ, zero, suc, ◌+◌, ◌-◌, ◌*◌, ◌/◌, ◌%◌, ◌^◌, ◌≤◌, ◌<◌, ◌≡◌, true, Option, Some, None, List, [], ◌∷◌, ◌++◌, All, Contains, map, drop, length, slice_index, slice_index_or}
use Rattle.std.specs.List.Sorted.{IsStrictlyIncreasing}
use Rattle.visa_io.specs.declared.records.Span.{Span}
use Rattle.visa_io.specs.declared.records.Code.{Code}
use Rattle.mips_isa.specs.Decoding.{decode_of}
use Rattle.mips_isa.specs.Fits.{FieldsFit}
use Rattle.mips_isa.specs.declared.instr.Instr.{Instr}
use Rattle.flow_graph.specs.Code.{instr_at, is_code}
use Rattle.flow_graph.specs.declared.table.Line.{Line}
use Rattle.flow_graph.specs.declared.table.Table.{Table}

-- the lines of the first words from an address on
abbrev pub line_at : ℕ → List ℕ → ℕ → Line
line_at start words k = record { at = start + 4 * k; instr = decode_of (slice_index words k) }

unfoldable pub lines_upto : ℕ → List ℕ → ℕ → List Line
lines_upto start words zero = []
lines_upto start words (suc k) = lines_upto start words k ++ line_at start words k ∷ []

-- the lines of spans, whose words stand one after the other
unfoldable pub lines_of : List Span → List ℕ → List Line
lines_of [] words = []
lines_of (span ∷ rest) words = lines_upto span.start words (span.len / 4) ++ lines_of rest (drop (span.len / 4) words)

-- spans of whole words at multiples of four that have so many words or fewer, none of which ends past 2^32
unfoldable pub HaveWords : List Span → ℕ → Type 0
HaveWords [] count = Unit {0}
HaveWords (span ∷ rest) count =
    (span.start % 4 ≡ 0) × (span.len % 4 ≡ 0) × (span.start + span.len ≤ 2 ^ 32) × (span.len / 4 ≤ count)
    × HaveWords rest (count - span.len / 4)

-- a line says what stands at its address of code
pub record IsLine (code : Code) (line : Line) : Type 0 where
  pub is : is_code code line.at ≡ true
  pub instr : instr_at code line.at ≡ line.instr
  pub fits : (i : Instr) → line.instr ≡ Some i → FieldsFit i

-- all lines of a code, by rising address
pub record AreLines (code : Code) (lines : List Line) : Type 0 where
  pub rise : IsStrictlyIncreasing (map (λ line. line.at) lines)
  pub each : All (IsLine code) lines
  pub all : (a : ℕ) → is_code code a ≡ true → Contains (map (λ line. line.at) lines) a

-- the lists are beside each other, addresses rise, and instructions have words
pub record IsIndex (table : Table) : Type 0 where
  pub beside : length table.instrs.items ≡ length table.addresses.items
  pub rise : IsStrictlyIncreasing table.addresses.items
  pub fits : (k : ℕ) (i : Instr) → slice_index_or table.instrs.items k None ≡ Some i → FieldsFit i

-- the same in two lists
pub record IsTable (code : Code) (table : Table) : Type 0 where
  pub index : IsIndex table
  pub each : (k : ℕ) → k < length table.addresses.items → IsLine code (record { at = slice_index table.addresses.items k; instr = slice_index_or table.instrs.items k None })
  pub all : (a : ℕ) → is_code code a ≡ true → Contains table.addresses.items a

-- the place of an address, if it is there
abbrev pub IsFound : List ℕ → ℕ → Option ℕ → Type 0
IsFound addresses a None = Contains addresses a → ⊥
IsFound addresses a (Some k) = (k < length addresses) × (slice_index addresses k ≡ a)
