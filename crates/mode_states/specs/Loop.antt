-- A course while it is run. Working definitions.
use Rattle.std.specs.Prelude.{◌≡◌, ◌≤◌, ◌<◌, ◌^◌, ℕ, List, length, slice_index, Option, Some, None}
use Rattle.mips_ref.specs.Mips.{Held, Mips}
use Rattle.mips_ref.specs.declared.records.Step.{Step}
use Rattle.ooo_clock.specs.Clock.{Predicts, opening}
use Rattle.ooo_clock.specs.Fasts.{Clocked, IsAt, StandsBeside}
use Rattle.mode_states.specs.Course.{Course, IsMissed, clock_at, ending_at, progress_at}
use Rattle.mode_states.specs.Ends.{last_watchdog}
use Rattle.mode_states.specs.Fits.{IsWatching, progress_of}
use Rattle.mode_states.specs.Progress.{ended_in}
use Rattle.mode_states.specs.declared.watch.Watch.{Watch}

-- the course of a core that is opened on a state, with a predictor and its data
abbrev pub course_from : Predicts → Clocked → Mips → List ℕ → List ℕ → List ℕ → Course
course_from p fast x numbers cuts watchdogs =
    record {
      speeds = fast.speeds;
      predicts = p;
      opening = opening fast.machine.rob x numbers;
      cuts = cuts;
      watchdogs = watchdogs;
    }

-- a watchdog for each sub-task, none below those before it
pub record AreWatchdogs (cuts : ℕ) (watchdogs : List ℕ) : Type 0 where
  pub enough : cuts < length watchdogs
  pub rise : (i j : ℕ) → i ≤ j → j ≤ cuts → slice_index watchdogs i ≤ slice_index watchdogs j
  pub small : slice_index watchdogs cuts ≤ 10 ^ 12

-- After the core's number of cycles: core, state, predictor's data and watch are the course's, the job hasn't ended,
-- and no checkpoint was missed before.
pub record IsRunning (c : Course) (was is : Held) (fast : Clocked) (w : Watch) (numbers : List ℕ) : Type 0 where
  pub clock : IsAt fast is.mips numbers (clock_at c fast.cycle)
  pub beside : StandsBeside fast is.mips
  pub speeds : fast.speeds ≡ c.speeds
  pub computed : is.computed ≡ was.computed
  pub progress : progress_of w ≡ progress_at c fast.cycle
  pub watching : IsWatching (length c.cuts) fast.cycle w
  pub goes_on : (m : ℕ) → m ≤ fast.cycle → ending_at c m ≡ None
  pub never : (m : ℕ) → m < fast.cycle → ¬ (IsMissed c m)
  pub early : fast.cycle ≤ slice_index c.watchdogs (length w.counts.items)

-- and the job has ended with this answer in the last cycle
pub record HasEnded (c : Course) (was is : Held) (fast : Clocked) (w : Watch) (numbers : List ℕ)
    (answer : Step) : Type 0 where
  pub clock : IsAt fast is.mips numbers (clock_at c fast.cycle)
  pub computed : is.computed ≡ was.computed
  pub progress : progress_of w ≡ ended_in fast.cycle (progress_at c fast.cycle)
  pub ended : ending_at c fast.cycle ≡ Some answer
  pub goes_on : (m : ℕ) → m < fast.cycle → ending_at c m ≡ None
  pub never : (m : ℕ) → m < fast.cycle → ¬ (IsMissed c m)
  pub few : fast.cycle ≤ last_watchdog c

-- a watchdog has run out
pub record HasRunOut (c : Course) (was is : Held) (fast : Clocked) (w : Watch) (numbers : List ℕ) : Type 0 where
  pub running : IsRunning c was is fast w numbers
  pub late : slice_index c.watchdogs (length w.counts.items) ≤ fast.cycle

-- how the run of a course stops: with the answer that has ended the job, or where a watchdog has run out
abbrev pub Stops : Course → Held → Held → Clocked → Watch → List ℕ → Option Step → Type 0
Stops c was is fast w numbers (Some answer) = HasEnded c was is fast w numbers answer
Stops c was is fast w numbers None = HasRunOut c was is fast w numbers
