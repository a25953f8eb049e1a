-- Jobs one after the other. This project's own.
use Rattle.std.specs.Prelude.{ℕ, suc, ◌-◌, List, [], ◌∷◌, length, slice_index}
use Rattle.frequency_pick.specs.Counts.{Count, count}
use Rattle.log_text.specs.declared.record.JobMode.{JobMode}
use Rattle.log_text.specs.declared.record.JobMode.TheVariants.{Missed}
use Rattle.admission.specs.Found.{bounds_at}
use Rattle.admission.specs.declared.mode.Mode.{Mode}
use Rattle.admission.specs.declared.mode.Mode.TheVariants as admitted
use Rattle.mode_states.specs.declared.kept.Kept.{Kept}
use Rattle.job_runner.specs.Job.{Before, RanJob, RunsFast, RunsSimple, Setting}

-- counts, newest first, and then those of the sub-tasks from one on
abbrev pub with_subs : ℕ → List ℕ → List Count → List Count
with_subs i [] cs = cs
with_subs i (n ∷ ns) cs = with_subs (suc i) ns (count i n ∷ cs)

-- and then that of a sub-task whose checkpoint was missed: its bound at the speculative point
abbrev pub with_missed : Kept → JobMode → List Count → List Count
with_missed k (Missed sub pair at switch_ps) cs = count sub (slice_index (bounds_at k.admitted.bounds pair.a) (sub - 1)) ∷ cs
with_missed k other cs = cs

-- the counts after a job: those of its sub-tasks that ended in fast mode, and behind them that of a missed one
abbrev pub counts_after : Kept → RanJob → List Count → List Count
counts_after k r cs = with_missed k r.job.mode (with_subs 1 r.counts cs)

-- all counts behind jobs, newest first
unfoldable pub all_counts : Setting → List RanJob → List Count
all_counts s [] = s.past
all_counts s (r ∷ older) = counts_after s.kept r (all_counts s older)

-- what the job after these finds, newest first
unfoldable pub before : Setting → List RanJob → Before
before s [] = record { jobs = 0; memory = s.memory; numbers = s.numbers; counts = s.past }
before s (r ∷ older) =
    record {
      jobs = length (r ∷ older);
      memory = r.state.memory;
      numbers = r.numbers;
      counts = all_counts s (r ∷ older);
    }

-- how a job runs by the mode for which its task was admitted
abbrev pub Runs : Mode → Setting → Before → List ℕ → RanJob → Type 0
Runs admitted.Simple = RunsSimple
Runs admitted.Fast = RunsFast

-- the first jobs of a run with these inputs, newest first
abbrev pub AreRun : Mode → Setting → (ℕ → List ℕ) → List RanJob → Type 0
AreRun mode s inputs [] = Unit {0}
AreRun mode s inputs (r ∷ older) = Runs mode s (before s older) (inputs (length older)) r × AreRun mode s inputs older
