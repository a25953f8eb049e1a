-- The header of an ELF file. Source: System V ABI, chapter 4, "ELF Header"; MIPS supplement, "e_flags".
use Rattle.std.specs.Prelude.{ℕ, ◌+◌, ◌*◌, ◌/◌, ◌^◌, ◌==◌, Bool, not, ◌&&◌, ◌||◌, if◌then◌else◌, nat_le, nat_lt, List, length, slice_index, Option, Some, None}
use Rattle.visa_io.specs.ImageCode.{word_at}
use Rattle.mips_elf.specs.declared.error.ElfError.{ElfError}
use Rattle.mips_elf.specs.declared.error.ElfError.TheVariants.{NotElf, Truncated, WrongClass, WrongMachine, WrongType, WrongArch, EntrySize, TooMany}
use Rattle.mips_elf.specs.declared.header.Header.{Header}

-- the number of 16 bits in two bytes, in a byte order
abbrev pub half_at : Bool → List ℕ → ℕ → ℕ
half_at big bytes i =
    if big then slice_index bytes i * 2 ^ 8 + slice_index bytes (i + 1) else slice_index bytes (i + 1) * 2 ^ 8 + slice_index bytes i

-- the fields at their offsets, in a byte order
unfoldable pub header_in : Bool → List ℕ → Header
header_in big bytes = record {
  big = big;
  kind = half_at big bytes 16;
  machine = half_at big bytes 18;
  entry = word_at big bytes 24;
  segment_table = word_at big bytes 28;
  section_table = word_at big bytes 32;
  flags = word_at big bytes 36;
  segment_size = half_at big bytes 42;
  segment_count = half_at big bytes 44;
  section_size = half_at big bytes 46;
  section_count = half_at big bytes 48;
}

-- byte 5 tells the byte order: 1 little, 2 big
abbrev pub header_of : List ℕ → Header
header_of bytes = header_in (slice_index bytes 5 == 2) bytes

-- so many bytes from a place on are in a file of this length; none are in it wherever they begin
abbrev pub lies_in : ℕ → ℕ → ℕ → Bool
lies_in len at count = count == 0 || nat_le (at + count) len

-- 7f 45 4c 46
abbrev pub has_magic : List ℕ → Bool
has_magic bytes =
    nat_le 4 (length bytes) && (slice_index bytes 0 == 127) && (slice_index bytes 1 == 69) && (slice_index bytes 2 == 76) && (slice_index bytes 3 == 70)

-- 32 bits, and a known byte order
abbrev pub has_class : List ℕ → Bool
has_class bytes = (slice_index bytes 4 == 1) && ((slice_index bytes 5 == 1) || (slice_index bytes 5 == 2))

-- the architecture level in the top four bits: MIPS I, MIPS II, MIPS32 or MIPS32 release 2
abbrev pub is_known_level : ℕ → Bool
is_known_level level = (level == 0) || (level == 1) || (level == 5) || (level == 7)

-- the first rule on the fields that fails, in a file of this length
unfoldable pub field_fault : ℕ → Header → Option ElfError
field_fault len h =
    if not (h.machine == 8) then Some WrongMachine
    else if not (h.kind == 2) then Some WrongType
    else if not (is_known_level (h.flags / 2 ^ 28)) then Some WrongArch
    else if not (h.segment_count == 0) && not (h.segment_size == 32) then Some EntrySize
    else if nat_lt 64 h.segment_count then Some TooMany
    else if not (lies_in len h.segment_table (32 * h.segment_count)) then Some (Truncated len)
    else None

-- the first rule on the header that fails
unfoldable pub header_fault : List ℕ → Option ElfError
header_fault bytes =
    if not (has_magic bytes) then Some NotElf
    else if nat_lt (length bytes) 52 then Some (Truncated (length bytes))
    else if not (has_class bytes) then Some WrongClass
    else field_fault (length bytes) (header_of bytes)
