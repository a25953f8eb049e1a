-- Lists of lines without repetitions, and counts of lines by set.
use Rattle.std.specs.Prelude.{◌≡◌, ◌<◌, ◌≤◌, ℕ, ◌-◌, ◌==◌, ◌&&◌, ◌||◌, Bool, not, nat_le, List, length, filter, slice_index}
use Rattle.std.specs.List.Sorted.{IsNonDecreasing, IsStrictlyIncreasing}
use Rattle.visa_io.specs.declared.records.Shape.{Shape}
use Rattle.cache_lru.specs.Recency.{is_among, line_of, set_of}

-- an ascending list has the numbers of another, each once
pub record IsEachOnce (once all : List ℕ) : Type 0 where
  pub rising : IsStrictlyIncreasing once
  pub same : (n : ℕ) → is_among n once ≡ is_among n all

-- how many of some lines lie in a set
abbrev pub count_in : Shape → List ℕ → ℕ → ℕ
count_in shape lines s = length (filter (λ line. set_of shape line == s) lines)

-- such a count for each set
pub record IsCount (shape : Shape) (lines counts : List ℕ) : Type 0 where
  pub long : length counts ≡ shape.sets
  pub counted : (s : ℕ) → s < shape.sets → slice_index counts s ≡ count_in shape lines s

-- whether the set of a line has, by its count, no more lines than ways
abbrev pub has_room : List ℕ → Shape → ℕ → Bool
has_room counts shape line = nat_le (slice_index counts (set_of shape line)) shape.ways

-- whether a fetch isn't charged: its line has room in its set, or it neither begins a block nor lies in another line than the
-- instruction before it
abbrev pub is_free_by : List ℕ → List ℕ → Shape → ℕ → Bool
is_free_by blocks counts shape at =
    has_room counts shape (line_of shape at) || not (is_among at blocks || not (line_of shape at == line_of shape (at - 4)))

-- an ascending list of those of some addresses
pub record IsFreeOf (blocks counts : List ℕ) (shape : Shape) (addresses free : List ℕ) : Type 0 where
  pub rising : IsNonDecreasing free
  pub same : (at : ℕ) → is_among at free ≡ (is_among at addresses && is_free_by blocks counts shape at)

-- where a number may still stand in an ascending list: the numbers before `low` are below it, those from `high` on are not
pub record IsNarrowed (ats : List ℕ) (u low high : ℕ) : Type 0 where
  pub ordered : low ≤ high
  pub within : high ≤ length ats
  pub below : (k : ℕ) → k < low → slice_index ats k < u
  pub above : (k : ℕ) → high ≤ k → k < length ats → u ≤ slice_index ats k
