-- Counts of the cycles that sub-tasks took, and what they predict. This project's own.
use Rattle.std.specs.Prelude.{◌≡◌, ◌<◌, ◌-◌, ◌+◌, ℕ, max, List, [], ◌∷◌, ◌++◌, ◌==◌, if◌then◌else◌, fold, length, slice_index_or, Option, Some, None}
use Rattle.circular_buffer.specs.Buffer.{keep_last}

-- so many cycles of a sub-task, which are numbered from 1
pub record Count : Type 0 where
  pub sub : ℕ
  pub cycles : ℕ

abbrev pub count : ℕ → ℕ → Count
count sub cycles = record { sub = sub; cycles = cycles }

-- all counts of a sub-task, the oldest first; among those of all sub-tasks, the newest first
abbrev pub counts_of : ℕ → List Count → List ℕ
counts_of i [] = []
counts_of i (c ∷ cs) = if c.sub == i then counts_of i cs ++ c.cycles ∷ [] else counts_of i cs

-- the greatest of these numbers
abbrev pub greatest : List ℕ → Option ℕ
greatest [] = None
greatest (n ∷ ns) = Some (fold max 0 (n ∷ ns))

-- a sub-task is predicted to take the greatest of its last eight counts
abbrev pub prediction : List Count → ℕ → Option ℕ
prediction cs i = greatest (keep_last 8 (counts_of i cs))

-- what is kept of each sub-task stands for all counts: it is the last eight
abbrev pub StandsFor : List (List ℕ) → List Count → Type 0
StandsFor kept cs = (k : ℕ) → k < length kept → slice_index_or kept k [] ≡ keep_last 8 (counts_of (k + 1) cs)

-- the predictions by what is kept
abbrev pub predicted_by : List (List ℕ) → ℕ → Option ℕ
predicted_by kept i = greatest (slice_index_or kept (i - 1) [])
