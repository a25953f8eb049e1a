-- What a cache keeps, and the accesses for which it stands.
use Rattle.std.specs.Prelude.{◌≡◌, ◌==◌, ◌<◌, ◌≤◌, ◌^◌, ℕ, List, [], ◌∷◌, take, slice_index_or, Option, None, Some, option_map, if◌then◌else◌}
use Rattle.visa_io.specs.declared.records.Shape.{Shape}
use Rattle.cache_lru.specs.Recency.{lines_at, lines_of, set_of}

-- a cache of a shape: for each set the lines in it, the most recently used first
pub record Contents : Type 0 where
  pub shape : Shape
  pub rows : List (List ℕ)

-- the shape of a cache, if there is one
abbrev pub shape_of : Option Contents → Option Shape
shape_of cache = option_map (λ (c : Contents). c.shape) cache

-- a cache can be built: its sets and the bytes of a line are powers of two, and it has at most eight ways
pub record IsBuildable (shape : Shape) : Type 0 where
  pub set_bits : ℕ
  pub sets_are : shape.sets ≡ 2 ^ set_bits
  pub line_bits : ℕ
  pub line_is : shape.line ≡ 2 ^ line_bits
  pub few_ways : shape.ways ≤ 8

-- each set holds the most recent of its lines that were accessed, as many as it has ways
abbrev pub HoldsRecent : Contents → List ℕ → Type 0
HoldsRecent cache accesses =
    (s : ℕ) → s < cache.shape.sets → slice_index_or cache.rows s [] ≡ take cache.shape.ways (lines_of (set_of cache.shape) s accesses)

-- A cache stands for all accesses since it was last empty, newest first. Where there is no cache, nothing stands for any.
abbrev pub StandsFor : Option Contents → List ℕ → Type 0
StandsFor None accesses = Unit {0}
StandsFor (Some cache) accesses = HoldsRecent cache accesses

-- a list without the first of a line
abbrev pub remove_first : ℕ → List ℕ → List ℕ
remove_first line [] = []
remove_first line (other ∷ row) = if other == line then row else other ∷ remove_first line row

-- the lines of a set after an access to a line
abbrev pub renewed : ℕ → ℕ → List ℕ → List ℕ
renewed ways line row = take ways (line ∷ remove_first line row)

-- the same of accesses that are given as addresses
abbrev pub StandsForAddresses : Option Contents → List ℕ → Type 0
StandsForAddresses None accesses = Unit {0}
StandsForAddresses (Some cache) accesses = HoldsRecent cache (lines_at cache.shape accesses)
