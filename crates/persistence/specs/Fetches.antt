-- How many fetches of a list miss, whatever was fetched before. Lists of addresses, newest first. This project's own.
use Rattle.std.specs.Prelude.{◌≡◌, ◌⊎◌, ℕ, ◌+◌, ◌||◌, Bool, true, false, List, [], ◌∷◌, ◌++◌, length, filter, Option, if◌then◌else◌}
use Rattle.visa_io.specs.declared.records.Shape.{Shape}
use Rattle.cache_lru.specs.Recency.{hits_at, is_among, line_of, lines_at}
use Rattle.persistence.specs.Charges.{each_once, is_persistent}

-- whether the newest of a list of accesses hits
abbrev pub newest_hits : Option Shape → List ℕ → Bool
newest_hits shape [] = false
newest_hits shape (at ∷ older) = hits_at shape at older

-- how many accesses of a part miss, after older ones
abbrev pub misses : (List ℕ → Bool) → List ℕ → List ℕ → ℕ
misses hits [] older = 0
misses hits (at ∷ part) older = (if hits (at ∷ (part ++ older)) then 0 else 1) + misses hits part older

-- The fetches of a scope: the shape of the cache, the addresses of the scope's instructions, and which fetches are charged.
pub record Charging : Type 0 where
  pub shape : Shape
  pub scope : List ℕ
  pub charged : ℕ → Bool

-- the line of an address is persistent in the scope
abbrev pub has_persistent : Charging → ℕ → Bool
has_persistent c at = is_persistent c.shape (lines_at c.shape c.scope) (line_of c.shape at)

-- how many lines of the scope are persistent
abbrev pub persistent_count : Charging → ℕ
persistent_count c = length (filter (is_persistent c.shape (lines_at c.shape c.scope)) (each_once (lines_at c.shape c.scope)))

-- a fetch is charged, or of a persistent line
abbrev pub covers : Charging → ℕ → Bool
covers c at = c.charged at || has_persistent c at

-- a fetch is charged, or of a persistent line, or of the line of the fetch before it
abbrev pub Follows : Charging → ℕ → ℕ → Type 0
Follows c at before = (c.charged at ≡ true) ⊎ (has_persistent c at ≡ true) ⊎ (line_of c.shape at ≡ line_of c.shape before)

-- each fetch of a list but the oldest
abbrev pub AllFollow : Charging → List ℕ → Type 0
AllFollow c [] = Unit {0}
AllFollow c (at ∷ []) = Unit {0}
AllFollow c (at ∷ before ∷ older) = Follows c at before × AllFollow c (before ∷ older)

-- addresses of the scope
abbrev pub AllInside : Charging → List ℕ → Type 0
AllInside c [] = Unit {0}
AllInside c (at ∷ older) = (is_among at c.scope ≡ true) × AllInside c older

-- how many of these fetches are charged
abbrev pub charges_at : (ℕ → Bool) → List ℕ → ℕ
charges_at charged [] = 0
charges_at charged (at ∷ older) = (if charged at then 1 else 0) + charges_at charged older

abbrev pub oldest_of : ℕ → List ℕ → ℕ
oldest_of at [] = at
oldest_of at (before ∷ older) = oldest_of before older

-- 1 where a part begins with a fetch that isn't covered
abbrev pub late_at : (ℕ → Bool) → List ℕ → ℕ
late_at covered [] = 0
late_at covered (at ∷ older) = if covered (oldest_of at older) then 0 else 1
