-- Working definitions: what a runner keeps between jobs, and what a job makes of it. No clause of a law cites them.
use Rattle.std.specs.Prelude.{◌≡◌, ◌≤◌, ℕ, suc, ◌+◌, ◌*◌, ◌-◌, ◌^◌, min, List, length}
use Rattle.admission.specs.declared.mode.Mode.{Mode}
use Rattle.checkpoint_plan.specs.Plan.{switch_of}
use Rattle.frequency_pick.specs.Counts.{Count, StandsFor}
use Rattle.frequency_pick.specs.declared.plans.Pair.{Pair}
use Rattle.log_text.specs.declared.record.JobRecord.{JobRecord}
use Rattle.ooo_clock.specs.Clock.{Predicts}
use Rattle.mode_states.specs.Kept.{fastest, period_at}
use Rattle.mode_states.specs.Views.{Going, Resting, Waiting}
use Rattle.mode_states.specs.declared.kept.Kept.{Kept}
use Rattle.job_runner.specs.Job.{Before, RanJob, Setting}
use Rattle.job_runner.specs.Run.{Runs, counts_after}

-- the machine at rest, the last counts of each sub-task, and how many jobs ran
pub record Running : Type 0 where
  pub idle : Resting
  pub history : List (List ℕ)
  pub ran : ℕ

-- a history of each sub-task of a task stands for some counts that were told
pub record IsTold (k : Kept) (history : List (List ℕ)) : Type 0 where
  pub counts : List Count
  pub stands : StandsFor history counts
  pub subs : length history ≡ length k.cuts + 1

-- a runner, with the predictor's data, stands where a job of a run finds this
pub record StandsAt (s : Setting) (b : Before) (r : Running) (numbers : List ℕ) : Type 0 where
  pub kept : r.idle.kept ≡ s.kept
  pub memory : r.idle.state.mips.memory ≡ b.memory
  pub output_max : r.idle.state.mips.output_max ≡ s.output_max
  pub numbers_are : numbers ≡ b.numbers
  pub counts : StandsFor r.history b.counts
  pub ran_is : r.ran ≡ min b.jobs (2 ^ 64 - 1)

-- the job that a runner has just run
abbrev pub ran_by : Running → JobRecord → List ℕ → RanJob
ran_by r job numbers = record { job = job; state = r.idle.state.mips; counts = r.idle.counts; numbers = numbers }

-- what the job after one finds, where that one found this
abbrev pub next : Setting → Before → RanJob → Before
next s b r =
    record {
      jobs = suc b.jobs;
      memory = r.state.memory;
      numbers = r.numbers;
      counts = counts_after s.kept r b.counts;
    }

-- A job with an input has run in this mode. At whatever place of a run a runner stood, with the predictor's data: its job ran there as
-- the mode tells, and the runner stands at the next place. The job ended by its deadline.
pub record HasRun (mode : Mode) (predicts : Predicts) (was : Running) (numbers input : List ℕ) (is : Running) (job : JobRecord)
    (later : List ℕ) : Type 0 where
  pub runs : (s : Setting) (b : Before) → s.predicts ≡ predicts → StandsAt s b was numbers → Runs mode s b input (ran_by is job later)
  pub stands : (s : Setting) (b : Before) → StandsAt s b was numbers → StandsAt s (next s b (ran_by is job later)) is later
  pub in_time : job.end_ps ≤ was.idle.kept.deadline_ps
  pub kept : is.idle.kept ≡ was.idle.kept

-- the fastest point twice
abbrev pub fastest_pair : Kept → Pair
fastest_pair k = record { a = fastest k; b = fastest k }

-- a job that has missed a checkpoint, after the switch to simple mode
abbrev pub switched : Waiting → Going
switched d =
    let pa = period_at d.kept d.pair.a in
    let taken = switch_of d.kept.machine d.flight pa (period_at d.kept d.pair.b) in
    record {
      kept = d.kept;
      state = d.state;
      counts = d.counts;
      point = d.pair.b;
      switch_ps = taken;
      spent_ps = d.kept.machine.start_ps + d.at * pa + taken;
    }
