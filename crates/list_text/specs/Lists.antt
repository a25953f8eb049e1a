-- The lines of a list of code. This project's own.
use Rattle.std.specs.Prelude.{ℕ, ◌+◌, ◌/◌, Bool, ◌&&◌, nat_eq, Option, Some, None, List, [], ◌∷◌, ◌++◌, codes, drop, filter, map, take}
use Rattle.std.specs.List.{list_all}
use Rattle.mips_isa.specs.Decoding.{decode_of}
use Rattle.mips_isa.specs.declared.instr.Instr.{Instr}
use Rattle.mips_text.specs.Operands.{instr_text}
use Rattle.text_fields.specs.Lines.{is_graphic, line, space}
use Rattle.text_fields.specs.Numbers.{hex_text}
use Rattle.visa_io.specs.ImageCode.{code_of_image}
use Rattle.visa_io.specs.declared.records.Image.{Image}
use Rattle.visa_io.specs.declared.records.Span.{Span}

-- the first line of a list
abbrev pub list_header : List ℕ
list_header = line (codes "visa 1 list")

-- a name of bytes from 21 to 7e alone
abbrev pub is_plain : List ℕ → Bool
is_plain name = list_all is_graphic name

abbrev pub symbol_line : List ℕ → List ℕ
symbol_line name = codes "sym " ++ line name

-- the lines of the symbols at an address, in file order
unfoldable pub symbol_lines : List (List ℕ × ℕ) → ℕ → List (List ℕ)
symbol_lines symbols at = map (λ s. symbol_line s.0) (filter (λ s. is_plain s.0 && nat_eq s.1 at) symbols)

-- what a word means at an address
abbrev pub meant_text : Option Instr → ℕ → List ℕ
meant_text None at = codes "reserved"
meant_text (Some i) at = instr_text i at

-- the line of a word: its address, itself, and what it means
unfoldable pub word_line : ℕ → ℕ → List ℕ
word_line at word = hex_text at ++ space ∷ (hex_text word ++ space ∷ line (meant_text (decode_of word) at))

-- the lines of a word, behind those of its address
abbrev pub word_lines : (ℕ → List (List ℕ)) → ℕ → ℕ → List (List ℕ)
word_lines names at word = names at ++ word_line at word ∷ []

-- of words from an address on
abbrev pub lines_from : (ℕ → List (List ℕ)) → ℕ → List ℕ → List (List ℕ)
lines_from names at [] = []
lines_from names at (word ∷ words) = word_lines names at word ++ lines_from names (at + 4) words

-- of spans, which hold the words one after the other
abbrev pub lines_of_spans : (ℕ → List (List ℕ)) → List Span → List ℕ → List (List ℕ)
lines_of_spans names [] words = []
lines_of_spans names (span ∷ spans) words =
    lines_from names span.start (take (span.len / 4) words) ++ lines_of_spans names spans (drop (span.len / 4) words)

-- the lines of an image's code: the first line, and for each word those of the symbols at its address and its own
unfoldable pub list_lines : Image → List (List ℕ)
list_lines image =
    list_header ∷ lines_of_spans (symbol_lines image.symbols) (code_of_image image).spans (code_of_image image).words
