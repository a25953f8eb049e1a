-- The image of an ELF file, and the rules that it keeps. Source: System V ABI, chapters 4 and 5; the limits are this
-- project's own.
use Rattle.std.specs.Prelude.{ℕ, ◌-◌, ◌/◌, ◌%◌, ◌<◌, ◌≤◌, ◌≡◌, ◌⊎◌, ◌==◌, true, List, [], ◌∷◌, ◌++◌, length, map, take, drop, replicate, ⊤, Option, MatchOption, Result, Ok, MatchResult, IsErrAnd}
use Rattle.visa_io.specs.declared.records.Image.{Image}
use Rattle.visa_io.specs.declared.records.Span.{Span}
use Rattle.mips_elf.specs.declared.error.ElfError.{ElfError}
use Rattle.mips_elf.specs.declared.error.ElfError.TheVariants.{NotElf, Truncated, WrongClass, WrongMachine, WrongType, WrongArch, EntrySize, TooMany, Dynamic, SegmentSize, Overlap, TooBig, Memory}
use Rattle.mips_elf.specs.declared.header.Header.{Header}
use Rattle.mips_elf.specs.declared.segment.Segment.{Segment}
use Rattle.mips_elf.specs.Header.{header_fault, header_of, lies_in}
use Rattle.mips_elf.specs.Segments.{segments_of, segments_fault, loads_of, memory_of, first_of, is_refused, IsLeastRefused}
use Rattle.mips_elf.specs.Symbols.{symbols_in, sections_in}

-- the span of a segment: bit 2 of its flags lets it be read, bit 1 written, bit 0 executed
abbrev pub span_of : Segment → Span
span_of s = record {
  start = s.address;
  len = s.memory_len;
  r = s.flags / 4 % 2 == 1;
  w = s.flags / 2 % 2 == 1;
  x = s.flags % 2 == 1;
}

-- the bytes of a segment: those of the file, and zeros behind them
abbrev pub content_of : List ℕ → Segment → List ℕ
content_of bytes s = take s.file_len (drop s.offset bytes) ++ replicate (s.memory_len - s.file_len) 0

abbrev pub contents_of : List ℕ → List Segment → List ℕ
contents_of bytes [] = []
contents_of bytes (s ∷ rest) = content_of bytes s ++ contents_of bytes rest

-- the image of segments
unfoldable pub image_from : Header → List ℕ → List Segment → Image
image_from h bytes loads = record {
  big = h.big;
  entry = h.entry;
  spans = map span_of loads;
  bytes = contents_of bytes loads;
  symbols = symbols_in h.big bytes (sections_in h bytes);
}

-- a segment takes memory, its bytes lie in the file, and it has room for them
pub record IsSound (len : ℕ) (s : Segment) : Type 0 where
  pub some : 0 < s.memory_len
  pub lies : lies_in len s.offset s.file_len ≡ true
  pub room : s.file_len ≤ s.memory_len

-- no address is refused
abbrev pub NoneRefused : List Segment → Type 0
NoneRefused loads = (a : ℕ) → is_refused loads a ≡ true → ⊥

-- how much memory the segments may take, in bytes
abbrev pub most_memory : ℕ
most_memory = 4194304

-- the segments may be loaded
pub record MayLoad (loads : List Segment) : Type 0 where
  pub apart : NoneRefused loads
  pub small : memory_of loads ≤ most_memory

-- why they may not; want of memory may come at any time
abbrev pub MayNotLoad : List Segment → ElfError → Type 0
MayNotLoad loads (Overlap at) = IsLeastRefused loads at
MayNotLoad loads TooBig = NoneRefused loads × (most_memory < memory_of loads)
MayNotLoad loads Memory = ⊤
MayNotLoad loads NotElf = ⊥
MayNotLoad loads (Truncated offset) = ⊥
MayNotLoad loads WrongClass = ⊥
MayNotLoad loads WrongMachine = ⊥
MayNotLoad loads WrongType = ⊥
MayNotLoad loads WrongArch = ⊥
MayNotLoad loads EntrySize = ⊥
MayNotLoad loads TooMany = ⊥
MayNotLoad loads Dynamic = ⊥
MayNotLoad loads (SegmentSize number) = ⊥

-- the first rule on the headers that fails
unfoldable pub early_fault : List ℕ → Option ElfError
early_fault bytes = first_of (header_fault bytes) (segments_fault (length bytes) (segments_of bytes))

-- what is answered where all rules on the headers hold
abbrev pub IsLateAnswer : List ℕ → List Segment → Result Image ElfError → Type 0
IsLateAnswer bytes loads result =
    MatchResult result (λ image. MayLoad loads × (image ≡ image_from (header_of bytes) bytes loads)) (MayNotLoad loads)

-- what is answered of a file: the first rule that fails, else the image; want of memory may come at any time
unfoldable pub IsAnswer : List ℕ → Result Image ElfError → Type 0
IsAnswer bytes result =
    MatchOption (early_fault bytes) (IsLateAnswer bytes (loads_of (segments_of bytes)) result)
    (λ fault. IsErrAnd result (λ e. (e ≡ fault) ⊎ (e ≡ Memory)))

-- a file has this image
abbrev pub IsImage : List ℕ → Image → Type 0
IsImage bytes image = IsAnswer bytes (Ok image)
