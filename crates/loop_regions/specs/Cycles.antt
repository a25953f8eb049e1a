-- Units that are reached from a unit along ways that lead on, by their marks. This project's own.
use Rattle.std.specs.Prelude.{ℕ, ◌+◌, ◌<◌, ◌≡◌, Bool, true, false, ◌||◌, not, ◌==◌, List, [], ◌∷◌, Contains, length, slice_index_or, if◌then◌else◌, Option, Some, None}
use Rattle.std.specs.List.{All}
use Rattle.loop_regions.specs.declared.ways.Way.{Way}

-- ways join units with numbers below a count
pub record IsIn (count : ℕ) (w : Way) : Type 0 where
  pub leaves : w.from < count
  pub enters : w.to < count

abbrev pub AreIn : ℕ → List Way → Type 0
AreIn count ways = All (IsIn count) ways

abbrev pub mark : List Bool → ℕ → Bool
mark marks u = slice_index_or marks u false

-- a way on that leads from the start or a marked unit to one that isn't marked
abbrev pub is_new : Way → ℕ → List Bool → Bool
is_new w start marks = not (w.back || (mark marks w.to || not ((w.from == start) || mark marks w.from)))

-- a way that leads on, from one unit to another
abbrev pub Joins : List Way → ℕ → ℕ → Type 0
Joins ways u v = (w : Way) × Contains ways w × (w.back ≡ false) × (w.from ≡ u) × (w.to ≡ v)

-- units along such ways, newest first
abbrev pub IsWayOn : List Way → ℕ → List ℕ → Type 0
IsWayOn ways start [] = ⊥
IsWayOn ways start (u ∷ []) = u ≡ start
IsWayOn ways start (v ∷ u ∷ us) = Joins ways u v × IsWayOn ways start (u ∷ us)

-- a unit is reached along one way or more
pub record IsAhead (ways : List Way) (start u : ℕ) : Type 0 where
  pub last : ℕ
  pub before : List ℕ
  pub way : IsWayOn ways start (u ∷ last ∷ before)

-- a mark is set only at units that are reached
abbrev pub AreAhead : List Way → ℕ → List Bool → Type 0
AreAhead ways start marks = (u : ℕ) → mark marks u ≡ true → IsAhead ways start u

-- no way on leads to an unmarked unit
abbrev pub AreClosed : List Way → ℕ → List Bool → Type 0
AreClosed ways start marks = All (λ w. is_new w start marks ≡ false) ways

-- units without a mark
abbrev pub unmarked : List Bool → ℕ
unmarked [] = 0
unmarked (m ∷ ms) = (if m then 0 else 1) + unmarked ms

-- what going over all ways once leaves
pub record IsSwept (ways : List Way) (start : ℕ) (old new : List Bool) (changed : Bool) : Type 0 where
  pub beside : length new ≡ length old
  pub ahead : AreAhead ways start old → AreAhead ways start new
  pub fewer : changed ≡ true → unmarked new < unmarked old
  pub closed : changed ≡ false → (new ≡ old) × AreClosed ways start old

-- what is marked in the end
pub record IsReachedFrom (ways : List Way) (start : ℕ) (old new : List Bool) : Type 0 where
  pub beside : length new ≡ length old
  pub ahead : AreAhead ways start old → AreAhead ways start new
  pub closed : AreClosed ways start new

-- whether a unit is on a cycle
abbrev pub IsOnCycle : List Way → ℕ → Bool → Type 0
IsOnCycle ways u b = (b ≡ true → IsAhead ways u u) × (b ≡ false → IsAhead ways u u → ⊥)

-- none of so many units is on a cycle, or this is the least that is
abbrev pub IsLeastOnCycle : List Way → ℕ → Option ℕ → Type 0
IsLeastOnCycle ways units None = (u : ℕ) → u < units → IsAhead ways u u → ⊥
IsLeastOnCycle ways units (Some u) = (u < units) × IsAhead ways u u × ((v : ℕ) → v < u → IsAhead ways v v → ⊥)
