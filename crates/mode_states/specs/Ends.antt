-- How a job in fast mode and one in simple mode end. This project's own, after the VISA paper.
use Rattle.std.specs.Prelude.{◌≡◌, ◌≤◌, ◌<◌, ℕ, ◌+◌, ◌*◌, List, length, slice_index, Some, None}
use Rattle.mips_ref.specs.Job.{after}
use Rattle.mips_ref.specs.Mips.{Held, Mips}
use Rattle.mips_ref.specs.declared.records.Step.{Step}
use Rattle.ooo_clock.specs.Along.{AllWent, EndsWith}
use Rattle.ooo_clock.specs.Clock.{Predicts, in_flight_of, opening, speeds_at}
use Rattle.simple_pipe.specs.Run.{counted_by}
use Rattle.simple_pipe.specs.Simple.{simple_time}
use Rattle.admitted_jobs.specs.Jobs.{inside}
use Rattle.mode_states.specs.Course.{Course, IsMissed, clock_at, ending_at, progress_at, sub_at}
use Rattle.mode_states.specs.Kept.{caches, pace_at, period_at, watchdogs_of}
use Rattle.mode_states.specs.Progress.{ended_in}
use Rattle.mode_states.specs.Views.{Going, Released, Resting, Waiting}
use Rattle.mode_states.specs.declared.ending.Ending.{Ending}
use Rattle.mode_states.specs.declared.fast_run.FastEnd.{FastEnd}
use Rattle.mode_states.specs.declared.fast_run.FastEnd.TheVariants.{Ended, Missed}

-- the course of a released job with a predictor and its data
abbrev pub course_of : Predicts → Released → List ℕ → Course
course_of p f numbers =
    record {
      speeds = speeds_at f.kept.machine (period_at f.kept f.pair.a);
      predicts = p;
      opening = opening f.kept.machine.rob f.state.mips numbers;
      cuts = f.kept.cuts;
      watchdogs = watchdogs_of f.kept f.pair;
    }

-- the watchdog of the last sub-task
abbrev pub last_watchdog : Course → ℕ
last_watchdog c = slice_index c.watchdogs (length c.cuts)

-- a machine's state, and the predictor's data, after n cycles
pub record IsAfter (c : Course) (n : ℕ) (was is : Held) (numbers : List ℕ) : Type 0 where
  pub mips : is.mips ≡ (clock_at c n).state
  pub computed : is.computed ≡ was.computed
  pub numbers_are : numbers ≡ (clock_at c n).numbers

-- the reference comes to this state by steps that all go, and is then inside this sub-task, counted from 0
pub record ComesTo (cuts : List ℕ) (x y : Mips) (sub : ℕ) : Type 0 where
  pub steps : ℕ
  pub went : AllWent steps x
  pub is : y ≡ after steps x
  pub sub_is : sub ≡ inside cuts x steps

-- the reference ends in this state with this answer
pub record EndsAs (x y : Mips) (answer : Step) : Type 0 where
  pub steps : ℕ
  pub ends : EndsWith x steps answer
  pub is : y ≡ after steps x

-- A checkpoint was missed: after `at` cycles, and after no fewer; of the first sub-task that hadn't ended. The state
-- is that of the clock then, and one of the reference's job.
pub record MissedSo (c : Course) (f : Released) (d : Waiting) (numbers : List ℕ) : Type 0 where
  pub missed : IsMissed c d.at
  pub least : (m : ℕ) → m < d.at → ¬ (IsMissed c m)
  pub few : d.at ≤ last_watchdog c
  pub kept : d.kept ≡ f.kept
  pub pair : d.pair ≡ f.pair
  pub sub : d.sub ≡ sub_at c d.at + 1
  pub counts : d.counts ≡ (progress_at c d.at).counts
  pub flight : d.flight ≡ in_flight_of (clock_at c d.at)
  pub after : IsAfter c d.at f.state d.state numbers
  pub reference : ComesTo c.cuts f.state.mips d.state.mips (sub_at c d.at)

-- The job ended in fast mode: no checkpoint was missed after any number of cycles. It performed the least number of
-- cycles within which it ends, and its end is the start and their time. Its state and answer are the last ones of the
-- reference's job.
pub record EndedSo (c : Course) (f : Released) (i : Resting) (e : Ending) (numbers : List ℕ) : Type 0 where
  pub cycles : ℕ
  pub ended : ending_at c cycles ≡ Some e.step
  pub least : (m : ℕ) → m < cycles → ending_at c m ≡ None
  pub never : (m : ℕ) → ¬ (IsMissed c m)
  pub few : cycles ≤ last_watchdog c
  pub kept : i.kept ≡ f.kept
  pub counts : i.counts ≡ (ended_in cycles (progress_at c cycles)).counts
  pub switch_is : e.switch_ps ≡ 0
  pub end_is : e.end_ps ≡ f.kept.machine.start_ps + cycles * period_at f.kept f.pair.a
  pub after : IsAfter c cycles f.state i.state numbers
  pub reference : EndsAs f.state.mips i.state.mips e.step

-- how a job in fast mode ends
abbrev pub IsFastEnd : Course → Released → FastEnd → List ℕ → Type 0
IsFastEnd c f (Ended i e) numbers = EndedSo c f i e numbers
IsFastEnd c f (Missed d) numbers = MissedSo c f d numbers

-- a job that ended in fast mode did so by its deadline
abbrev pub EndsInTime : Released → FastEnd → Type 0
EndsInTime f (Ended i e) = e.end_ps ≤ f.kept.deadline_ps
EndsInTime f (Missed d) = Unit {0}

-- A job in simple mode ended: it made the steps of the reference from its state on, in the time that they take in the
-- pipeline from empty caches at its point.
pub record SimpleEnd (g : Going) (i : Resting) (e : Ending) : Type 0 where
  pub steps : ℕ
  pub ends : EndsWith g.state.mips steps e.step
  pub mips : i.state.mips ≡ after steps g.state.mips
  pub computed : i.state.computed ≡ counted_by steps g.state.computed
  pub kept : i.kept ≡ g.kept
  pub counts : i.counts ≡ g.counts
  pub switch_is : e.switch_ps ≡ g.switch_ps
  pub end_is : e.end_ps ≡ g.spent_ps
      + simple_time (pace_at g.kept g.point) (caches g.kept) steps g.state.mips * period_at g.kept g.point
