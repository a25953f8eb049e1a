-- The symbols of an ELF file. Source: System V ABI, chapter 4, "Sections", "String Table" and "Symbol Table".
use Rattle.std.specs.Prelude.{ℕ, zero, suc, ◌+◌, ◌*◌, ◌/◌, ◌==◌, Bool, false, ◌&&◌, ◌||◌, if◌then◌else◌, nat_le, List, [], ◌∷◌, ◌++◌, length, take, drop, find, position, slice_get, min, Option, Some, None}
use Rattle.visa_io.specs.ImageCode.{word_at}
use Rattle.visa_io.specs.SymbolLists.{names}
use Rattle.mips_elf.specs.declared.header.Header.{Header}
use Rattle.mips_elf.specs.declared.section.Section.{Section}
use Rattle.mips_elf.specs.declared.section.Tables.{Tables}
use Rattle.mips_elf.specs.Header.{lies_in}

-- the section header at a place
unfoldable pub section_at : Bool → List ℕ → ℕ → Section
section_at big bytes at = record {
  kind = word_at big bytes (at + 4);
  offset = word_at big bytes (at + 16);
  size = word_at big bytes (at + 20);
  link = word_at big bytes (at + 24);
  entry_size = word_at big bytes (at + 36);
}

-- so many section headers from a place on, 40 bytes each
abbrev pub sections_from : Bool → List ℕ → ℕ → ℕ → List Section
sections_from big bytes at zero = []
sections_from big bytes at (suc count) = sections_from big bytes at count ++ section_at big bytes (at + 40 * count) ∷ []

-- whether section headers have 40 bytes and their table lies in the file
abbrev pub has_sections : ℕ → Header → Bool
has_sections len h = (h.section_size == 40) && lies_in len h.section_table (40 * h.section_count)

-- the section headers; none where they can't be read
abbrev pub sections_in : Header → List ℕ → List Section
sections_in h bytes = if has_sections (length bytes) h then sections_from h.big bytes h.section_table h.section_count else []

-- a section's bytes lie in a file of this length
abbrev pub section_lies : ℕ → Section → Bool
section_lies len s = lies_in len s.offset s.size

abbrev pub some_lies : ℕ → Option Section → Bool
some_lies len None = false
some_lies len (Some s) = section_lies len s

-- a symbol table: of type 2, with entries of 16 bytes, in the file, and linked to a section in the file
abbrev pub is_symbol_table : ℕ → List Section → Section → Bool
is_symbol_table len sections s =
    (s.kind == 2) && (s.entry_size == 16) && section_lies len s && some_lies len (slice_get sections s.link)

-- the bytes of a section
abbrev pub bytes_in : List ℕ → Section → List ℕ
bytes_in bytes s = take s.size (drop s.offset bytes)

-- the longest name that is kept
abbrev pub longest_name : ℕ
longest_name = 1024

-- how many symbols are read at most
abbrev pub most_symbols : ℕ
most_symbols = 65536

-- the bytes before the first zero byte, if there is one and they aren't too many
abbrev pub before_zero : List ℕ → Option ℕ → Option (List ℕ)
before_zero text None = None
before_zero text (Some n) = if nat_le n longest_name then Some (take n text) else None

-- the name at a place of a string table
abbrev pub name_at : List ℕ → ℕ → Option (List ℕ)
name_at strings i = before_zero (drop i strings) (position (λ b. b == 0) (drop i strings))

-- a name that isn't empty is kept once, at its first value
abbrev pub with_name : List (List ℕ × ℕ) → Option (List ℕ) → ℕ → List (List ℕ × ℕ)
with_name pairs None value = pairs
with_name pairs (Some name) value = if (length name == 0) || names pairs name then pairs else pairs ++ (name, value) ∷ []

-- the symbols of the first so many entries of a symbol table from a place on
abbrev pub symbols_from : Bool → List ℕ → List ℕ → ℕ → ℕ → List (List ℕ × ℕ)
symbols_from big bytes strings at zero = []
symbols_from big bytes strings at (suc count) =
    with_name (symbols_from big bytes strings at count)
    (name_at strings (word_at big bytes (at + 16 * count))) (word_at big bytes (at + 16 * count + 4))

-- a symbol table beside its string table
abbrev pub with_strings : Section → Option Section → Option Tables
with_strings table None = None
with_strings table (Some strings) = Some (record { table = table; strings = strings })

abbrev pub linked : List Section → Option Section → Option Tables
linked sections None = None
linked sections (Some table) = with_strings table (slice_get sections table.link)

-- the first symbol table, and its string table
abbrev pub tables_in : ℕ → List Section → Option Tables
tables_in len sections = linked sections (find (is_symbol_table len sections) sections)

-- the symbols of these two
abbrev pub symbols_of : Bool → List ℕ → Option Tables → List (List ℕ × ℕ)
symbols_of big bytes None = []
symbols_of big bytes (Some tables) =
    symbols_from big bytes (bytes_in bytes tables.strings) tables.table.offset (min (tables.table.size / 16) most_symbols)

-- the symbols of a file with these section headers
abbrev pub symbols_in : Bool → List ℕ → List Section → List (List ℕ × ℕ)
symbols_in big bytes sections = symbols_of big bytes (tables_in (length bytes) sections)
