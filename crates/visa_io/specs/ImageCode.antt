-- The code of an image: its executable spans by rising address, each cut to whole words. This project's own.
use Rattle.std.specs.Prelude.{ℕ, suc, zero, ◌+◌, ◌-◌, ◌*◌, ◌/◌, ◌%◌, ◌^◌, ◌≤◌, ◌≡◌, Bool, ◌&&◌, if◌then◌else◌, nat_le, nat_lt, ◌<◌, List, [], ◌∷◌, ◌++◌, map, filter, length, slice_index, All}
use Rattle.visa_io.specs.declared.records.Span.{Span}
use Rattle.visa_io.specs.declared.records.Code.{Code}
use Rattle.visa_io.specs.declared.records.Image.{Image}
use Rattle.visa_io.specs.declared.image_code.Placed.{Placed}

-- how many bytes spans have
abbrev pub total_len : List Span → ℕ
total_len [] = 0
total_len (span ∷ rest) = span.len + total_len rest

-- what every image keeps: as many bytes as its spans hold, and no span that ends past 2^32
pub record IsFilled (image : Image) : Type 0 where
  pub bytes : length image.bytes ≡ total_len image.spans
  pub ends : All (λ span. span.start + span.len ≤ 2 ^ 32) image.spans

-- the spans, each with the place of its first byte, which are after so many others
abbrev pub placed_from : ℕ → List Span → List Placed
placed_from at [] = []
placed_from at (span ∷ rest) = record { span = span; at = at } ∷ placed_from (at + span.len) rest

-- the first multiple of four in a span, and the last up to its end
abbrev pub first_word : Span → ℕ
first_word span = (span.start + 3) / 4 * 4

abbrev pub words_end : Span → ℕ
words_end span = (span.start + span.len) / 4 * 4

-- how many whole words stand in a span at multiples of four
abbrev pub word_count : Span → ℕ
word_count span = (words_end span - first_word span) / 4

-- a span is cut to these words
abbrev pub cut : Span → Span
cut span = record span { start = first_word span; len = 4 * word_count span }

-- an executable span with a word
abbrev pub has_code : Placed → Bool
has_code piece = piece.span.x && nat_lt 0 (word_count piece.span)

-- what is known of a piece with code: its bytes are among so many, its span ends by 2^32, and it has a word
pub record Fits (total : ℕ) (piece : Placed) : Type 0 where
  pub bytes : piece.at + piece.span.len ≤ total
  pub ends : piece.span.start + piece.span.len ≤ 2 ^ 32
  pub words : 0 < word_count piece.span

-- spans by rising address; equal ones keep their order
abbrev pub put_by_start : Placed → List Placed → List Placed
put_by_start piece [] = piece ∷ []
put_by_start piece (next ∷ rest) =
    if nat_le piece.span.start next.span.start then piece ∷ next ∷ rest else next ∷ put_by_start piece rest

abbrev pub by_start : List Placed → List Placed
by_start [] = []
by_start (piece ∷ rest) = put_by_start piece (by_start rest)

-- the word that four bytes are in a byte order
abbrev pub word_of : Bool → ℕ → ℕ → ℕ → ℕ → ℕ
word_of big a b c d =
    if big then a * 2 ^ 24 + b * 2 ^ 16 + c * 2 ^ 8 + d else d * 2 ^ 24 + c * 2 ^ 16 + b * 2 ^ 8 + a

abbrev pub word_at : Bool → List ℕ → ℕ → ℕ
word_at big bytes i =
    word_of big (slice_index bytes i) (slice_index bytes (i + 1)) (slice_index bytes (i + 2)) (slice_index bytes (i + 3))

-- so many words from a byte on
abbrev pub words_from : Bool → List ℕ → ℕ → ℕ → List ℕ
words_from big bytes at zero = []
words_from big bytes at (suc count) = words_from big bytes at count ++ word_at big bytes (at + 4 * count) ∷ []

-- the words of a span
abbrev pub words_in : Bool → List ℕ → Placed → List ℕ
words_in big bytes piece =
    words_from big bytes (piece.at + (first_word piece.span - piece.span.start)) (word_count piece.span)

-- the words of all spans
abbrev pub words_of_all : Bool → List ℕ → List Placed → List ℕ
words_of_all big bytes [] = []
words_of_all big bytes (piece ∷ rest) = words_in big bytes piece ++ words_of_all big bytes rest

-- the executable spans that have words, by rising address
abbrev pub code_pieces : List Span → List Placed
code_pieces spans = by_start (filter has_code (placed_from 0 spans))

-- a span of whole words
pub record IsAligned (span : Span) : Type 0 where
  pub start : span.start % 4 ≡ 0
  pub len : span.len % 4 ≡ 0

-- code has whole words alone, as many as its spans hold
pub record IsWhole (code : Code) : Type 0 where
  pub words : 4 * length code.words ≡ total_len code.spans
  pub aligned : All IsAligned code.spans

-- these, cut, and their words
abbrev pub code_from_pieces : Bool → List ℕ → List Placed → Code
code_from_pieces big bytes pieces = record { spans = map (λ piece. cut piece.span) pieces; words = words_of_all big bytes pieces }

unfoldable pub code_of_image : Image → Code
code_of_image image = code_from_pieces image.big image.bytes (code_pieces image.spans)
