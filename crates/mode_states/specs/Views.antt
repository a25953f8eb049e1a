-- The states of the modes as contracts see them. This project's own.
use Rattle.std.specs.Prelude.{ℕ, List}
use Rattle.mips_ref.specs.Mips.{Held}
use Rattle.frequency_pick.specs.declared.plans.Pair.{Pair}
use Rattle.mode_states.specs.declared.kept.Kept.{Kept}

-- between jobs: the last state of the job before, and the cycles of its sub-tasks that ended in fast mode
pub record Resting : Type 0 where
  pub kept : Kept
  pub state : Held
  pub counts : List ℕ

-- a job that is released in fast mode at a pair of points: the state in which it opens
pub record Released : Type 0 where
  pub kept : Kept
  pub state : Held
  pub pair : Pair

-- a job that has missed the checkpoint of a sub-task, which is numbered from 1, after so many cycles, with accesses
-- in flight for so many cycles more
pub record Waiting : Type 0 where
  pub kept : Kept
  pub state : Held
  pub pair : Pair
  pub counts : List ℕ
  pub sub : ℕ
  pub at : ℕ
  pub flight : ℕ

-- a job that goes on in simple mode at a point: the time since its release, ps, and how much of it the switch took
pub record Going : Type 0 where
  pub kept : Kept
  pub state : Held
  pub counts : List ℕ
  pub point : ℕ
  pub switch_ps : ℕ
  pub spent_ps : ℕ
