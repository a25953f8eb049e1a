-- A text's lines and a line's fields, and both ways back. This project's own: lines end with a line feed,
-- which the last one may lack, and fields stand between single spaces.
use Rattle.std.specs.Prelude.{ℕ, Bool, nat_eq, not, List, [], ◌∷◌, ◌++◌}
use Rattle.std.specs.Int.{is_in_range}
use Rattle.std.specs.List.{slice_split, join_with_byte, list_all}

-- the byte that ends a line, and the byte between two fields
abbrev pub feed : ℕ
feed = 10

abbrev pub space : ℕ
space = 32

-- a byte of a text, 20 to 7e
abbrev pub is_printable : ℕ → Bool
is_printable b = is_in_range space 126 b

-- one that isn't a space, 21 to 7e
abbrev pub is_graphic : ℕ → Bool
is_graphic b = is_in_range 33 126 b

abbrev pub is_feed : ℕ → Bool
is_feed b = nat_eq b feed

abbrev pub is_space : ℕ → Bool
is_space b = nat_eq b space

abbrev pub has_no_feed : List ℕ → Bool
has_no_feed line = list_all (λ b. not (is_feed b)) line

abbrev pub has_no_space : List ℕ → Bool
has_no_space field = list_all (λ b. not (is_space b)) field

-- a line, or nothing where it has no bytes
abbrev pub line_if_any : List ℕ → List (List ℕ)
line_if_any [] = []
line_if_any (b ∷ bs) = (b ∷ bs) ∷ []

-- what stands between line feeds, without a last piece of no bytes
abbrev pub without_last_empty : List (List ℕ) → List (List ℕ)
without_last_empty [] = []
without_last_empty (l ∷ []) = line_if_any l
without_last_empty (l ∷ m ∷ ls) = l ∷ without_last_empty (m ∷ ls)

-- the lines of a text; a text of no bytes has none
unfoldable pub lines_of : List ℕ → List (List ℕ)
lines_of text = without_last_empty (slice_split is_feed text)

-- the fields of a line; a line of no bytes has one, of no bytes
unfoldable pub fields : List ℕ → List (List ℕ)
fields line = slice_split is_space line

-- the line of these fields
abbrev pub spaced : List (List ℕ) → List ℕ
spaced fs = join_with_byte space fs

-- a line with its feed
abbrev pub line : List ℕ → List ℕ
line text = text ++ feed ∷ []

-- the text of these lines, each with its feed
abbrev pub written : List (List ℕ) → List ℕ
written [] = []
written (l ∷ ls) = l ++ feed ∷ written ls
