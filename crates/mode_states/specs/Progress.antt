-- How far a job has come along its cuts. The rules of sub-tasks are this project's own, after the VISA paper.
use Rattle.std.specs.Prelude.{ℕ, ◌-◌, Bool, false, ◌==◌, if◌then◌else◌, List, [], ◌∷◌, ◌++◌, length, slice_get, Option, Some, None}

-- the cycles of each sub-task that has ended, and how many cycles were performed when the last of them ended
pub record Progress : Type 0 where
  pub counts : List ℕ
  pub last : ℕ

-- at the release the first sub-task is under way
abbrev pub no_progress : Progress
no_progress = record { counts = []; last = 0 }

-- the sub-task under way ends in the n-th cycle: it took the cycles up to and with this one, less those of the
-- sub-tasks before it
abbrev pub ended_in : ℕ → Progress → Progress
ended_in n p = record { counts = p.counts ++ (n - p.last) ∷ []; last = n }

abbrev pub is_cut : Option ℕ → ℕ → Bool
is_cut None pc = false
is_cut (Some cut) pc = cut == pc

-- a pc in the n-th cycle: it ends the sub-task under way where it is the cut that begins the next one
abbrev pub passed : List ℕ → ℕ → Progress → ℕ → Progress
passed cuts n p pc = if is_cut (slice_get cuts (length p.counts)) pc then ended_in n p else p

-- the pcs of the n-th cycle, one after the other
unfoldable pub all_passed : List ℕ → ℕ → Progress → List ℕ → Progress
all_passed cuts n p [] = p
all_passed cuts n p (pc ∷ pcs) = all_passed cuts n (passed cuts n p pc) pcs
