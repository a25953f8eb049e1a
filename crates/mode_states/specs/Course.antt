-- A job in fast mode, cycle by cycle, and its checkpoints. This project's own, after the VISA paper.
use Rattle.std.specs.Prelude.{◌≡◌, ◌≤◌, ℕ, zero, suc, List, length, slice_index, Option, None}
use Rattle.mips_ref.specs.declared.records.Step.{Step}
use Rattle.ooo_clock.specs.Clock.{Clock, Predicts, Speeds}
use Rattle.ooo_clock.specs.Cycle.{cycled_of, cycles_of}
use Rattle.mode_states.specs.Progress.{Progress, all_passed, no_progress}

-- the core's speeds and the predictor, the clock as the job opens, its cuts, and the watchdog of each sub-task, in
-- cycles
pub record Course : Type 0 where
  pub speeds : Speeds
  pub predicts : Predicts
  pub opening : Clock
  pub cuts : List ℕ
  pub watchdogs : List ℕ

-- the clock after n cycles
abbrev pub clock_at : Course → ℕ → Clock
clock_at c n = cycles_of n c.speeds c.predicts c.opening

-- the pcs after the commits of the cycle that follows the first n
abbrev pub pcs_at : Course → ℕ → List ℕ
pcs_at c n = (cycled_of c.speeds c.predicts (clock_at c n)).pcs

-- what has ended the job within n cycles
abbrev pub ending_at : Course → ℕ → Option Step
ending_at c n = (clock_at c n).core.ending

-- how far the job has come after n cycles
unfoldable pub progress_at : Course → ℕ → Progress
progress_at c zero = no_progress
progress_at c (suc n) = all_passed c.cuts (suc n) (progress_at c n) (pcs_at c n)

-- the number, from 0, of the first sub-task that hasn't ended after n cycles
abbrev pub sub_at : Course → ℕ → ℕ
sub_at c n = length (progress_at c n).counts

-- After n cycles a checkpoint is missed: the job hasn't ended, and its cycles have come to the watchdog of the first
-- sub-task that hasn't ended.
pub record IsMissed (c : Course) (n : ℕ) : Type 0 where
  pub goes_on : ending_at c n ≡ None
  pub late : slice_index c.watchdogs (sub_at c n) ≤ n
