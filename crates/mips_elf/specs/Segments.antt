-- The program headers of an ELF file. Source: System V ABI, chapter 5, "Program Header".
use Rattle.std.specs.Prelude.{ℕ, zero, suc, ◌+◌, ◌*◌, ◌≤◌, ◌≡◌, ◌==◌, Bool, true, not, ◌&&◌, ◌||◌, if◌then◌else◌, nat_le, nat_lt, List, [], ◌∷◌, ◌++◌, filter, count_by, sum_by, max, Option, Some, None}
use Rattle.std.specs.List.{list_any}
use Rattle.visa_io.specs.ImageCode.{word_at}
use Rattle.mips_elf.specs.declared.error.ElfError.{ElfError}
use Rattle.mips_elf.specs.declared.error.ElfError.TheVariants.{Truncated, Dynamic, SegmentSize}
use Rattle.mips_elf.specs.declared.header.Header.{Header}
use Rattle.mips_elf.specs.declared.segment.Segment.{Segment}
use Rattle.mips_elf.specs.Header.{lies_in, header_of}

-- the program header at a place
unfoldable pub segment_at : Bool → List ℕ → ℕ → Segment
segment_at big bytes at = record {
  kind = word_at big bytes at;
  offset = word_at big bytes (at + 4);
  address = word_at big bytes (at + 8);
  file_len = word_at big bytes (at + 16);
  memory_len = word_at big bytes (at + 20);
  flags = word_at big bytes (at + 24);
}

-- so many program headers from a place on, 32 bytes each
abbrev pub segments_from : Bool → List ℕ → ℕ → ℕ → List Segment
segments_from big bytes at zero = []
segments_from big bytes at (suc count) = segments_from big bytes at count ++ segment_at big bytes (at + 32 * count) ∷ []

-- the program headers of a file
abbrev pub segments_in : Header → List ℕ → List Segment
segments_in h bytes = segments_from h.big bytes h.segment_table h.segment_count

abbrev pub segments_of : List ℕ → List Segment
segments_of bytes = segments_in (header_of bytes) bytes

-- one that asks for a dynamic linker: the dynamic section or an interpreter
abbrev pub is_dynamic : Segment → Bool
is_dynamic s = (s.kind == 2) || (s.kind == 3)

-- one that is loaded
abbrev pub is_load : Segment → Bool
is_load s = s.kind == 1

-- the first of two
abbrev pub first_of : {A : Type 0} → Option A → Option A → Option A
first_of None later = later
first_of (Some a) later = Some a

-- the first rule on one header that fails, in a file of this length
abbrev pub segment_fault : ℕ → ℕ → Segment → Option ElfError
segment_fault len number s =
    if not (is_load s) then None
    else if not (lies_in len s.offset s.file_len) then Some (Truncated len)
    else if nat_lt s.memory_len s.file_len then Some (SegmentSize number)
    else None

-- the first on load headers that are numbered from a number on
abbrev pub loads_fault : ℕ → ℕ → List Segment → Option ElfError
loads_fault len number [] = None
loads_fault len number (s ∷ rest) = first_of (segment_fault len number s) (loads_fault len (number + 1) rest)

-- the first rule on all headers that fails
abbrev pub segments_fault : ℕ → List Segment → Option ElfError
segments_fault len segments = if list_any is_dynamic segments then Some Dynamic else loads_fault len 0 segments

-- the segments that take memory
abbrev pub takes_memory : Segment → Bool
takes_memory s = is_load s && nat_lt 0 s.memory_len

abbrev pub loads_of : List Segment → List Segment
loads_of segments = filter takes_memory segments

-- a segment has an address
abbrev pub holds : ℕ → Segment → Bool
holds a s = nat_le s.address a && nat_lt a (s.address + s.memory_len)

-- the first address that is too high for a segment: the output port, and what stands behind it
abbrev pub first_too_high : ℕ
first_too_high = 4294901760

-- two segments share an address, or one has it where it is too high
abbrev pub is_refused : List Segment → ℕ → Bool
is_refused loads a = nat_le 2 (count_by (holds a) loads) || (nat_le first_too_high a && nat_le 1 (count_by (holds a) loads))

-- the least of the addresses that are refused
pub record IsLeastRefused (loads : List Segment) (a : ℕ) : Type 0 where
  pub refused : is_refused loads a ≡ true
  pub least : (b : ℕ) → is_refused loads b ≡ true → a ≤ b

-- an address that was found, if one was, is at most another
abbrev pub AtMost : Option ℕ → ℕ → Type 0
AtMost None b = ⊥
AtMost (Some a) b = a ≤ b

-- an address that was found is refused
abbrev pub IsFound : List Segment → Option ℕ → Type 0
IsFound loads None = Unit {0}
IsFound loads (Some a) = is_refused loads a ≡ true

-- the two addresses of a segment that may be the least: its first, and its first that is too high
pub record IsSeen (loads : List Segment) (found : Option ℕ) (s : Segment) : Type 0 where
  pub first : is_refused loads s.address ≡ true → AtMost found s.address
  pub too_high : is_refused loads (max s.address first_too_high) ≡ true → AtMost found (max s.address first_too_high)

-- how many bytes of memory segments take
abbrev pub memory_of : List Segment → ℕ
memory_of loads = sum_by (λ s. s.memory_len) loads
