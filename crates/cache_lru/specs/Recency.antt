-- Which accesses hit in a cache that replaces the least recently used line of a set. Accesses are given as the numbers of their
-- lines, newest first, since the cache was last empty. The use of caches is this project's own.
use Rattle.std.specs.Prelude.{◌==◌, ◌&&◌, ◌/◌, ◌%◌, ℕ, Bool, false, not, nat_lt, List, [], ◌∷◌, length, filter, map, Option, None, Some, if◌then◌else◌}
use Rattle.std.specs.List.{list_any}
use Rattle.visa_io.specs.declared.records.Shape.{Shape}

-- the number of the line in which an address lies
abbrev pub line_of : Shape → ℕ → ℕ
line_of shape at = at / shape.line

-- the number of the set to which a line belongs
abbrev pub set_of : Shape → ℕ → ℕ
set_of shape line = line % shape.sets

-- whether a line is among some accesses
abbrev pub is_among : ℕ → List ℕ → Bool
is_among line accesses = list_any (λ other. other == line) accesses

-- the accesses without those to a line
abbrev pub without : ℕ → List ℕ → List ℕ
without line accesses = filter (λ other. not (other == line)) accesses

-- the lines of the set `s` that were accessed, each once, the most recent first; `set` gives the set of a line
abbrev pub lines_of : (ℕ → ℕ) → ℕ → List ℕ → List ℕ
lines_of set s [] = []
lines_of set s (line ∷ older) = if set line == s then line ∷ without line (lines_of set s older) else lines_of set s older

-- the accesses since the last one to a line
abbrev pub since : ℕ → List ℕ → List ℕ
since line [] = []
since line (newest ∷ older) = if newest == line then [] else newest ∷ since line older

-- An access to a line is recent where the line was accessed before, and fewer than `ways` lines of its set since.
abbrev pub is_recent : (ℕ → ℕ) → ℕ → ℕ → List ℕ → Bool
is_recent set ways line older = is_among line older && nat_lt (length (lines_of set (set line) (since line older))) ways

-- Whether an access to a line hits, after older ones: where it is recent. Without a cache none does.
abbrev pub hits : Option Shape → ℕ → List ℕ → Bool
hits None line older = false
hits (Some shape) line older = is_recent (set_of shape) shape.ways line older

-- the lines of some addresses
abbrev pub lines_at : Shape → List ℕ → List ℕ
lines_at shape addresses = map (line_of shape) addresses

-- whether an access to an address hits, after older accesses to addresses
abbrev pub hits_at : Option Shape → ℕ → List ℕ → Bool
hits_at None at older = false
hits_at (Some shape) at older = hits (Some shape) (line_of shape at) (lines_at shape older)
