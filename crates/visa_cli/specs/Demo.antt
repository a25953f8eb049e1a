-- What the jobs of the demonstration come to. This project's own.
use Rattle.std.specs.Prelude.{◌≡◌, ℕ, ◌+◌, ◌%◌, ◌^◌, max, Bool, true, false, if◌then◌else◌, List, [], ◌∷◌, length}
use Rattle.std.specs.List.{sum}
use Rattle.command_line.specs.declared.forms.PredictorKind.TheVariants.{Static}
use Rattle.log_text.specs.Demo.{summary_lines}
use Rattle.log_text.specs.declared.demo.Summary.{Summary}
use Rattle.log_text.specs.declared.record.JobMode.{JobMode}
use Rattle.log_text.specs.declared.record.JobMode.TheVariants.{Fast, Missed}
use Rattle.job_runner.specs.Job.{RanJob}
use Rattle.visa_cli.specs.Run.{AreRunOf}
use Rattle.visa_cli.specs.declared.plan.Plan.{Plan}

-- a job ended in fast mode; it missed a checkpoint
abbrev pub is_fast : JobMode → Bool
is_fast (Fast pair) = true
is_fast other = false

abbrev pub is_missed : JobMode → Bool
is_missed (Missed sub pair at switch_ps) = true
is_missed other = false

abbrev pub one_if : Bool → ℕ
one_if b = if b then 1 else 0

-- how many of these jobs ran so
unfoldable pub count_of : (JobMode → Bool) → List RanJob → ℕ
count_of ran_so [] = 0
count_of ran_so (r ∷ older) = count_of ran_so older + one_if (ran_so r.job.mode)

-- the greatest of their ends, ps after the release
unfoldable pub latest_end : List RanJob → ℕ
latest_end [] = 0
latest_end (r ∷ older) = max (latest_end older) r.job.end_ps

-- the sum of all words that they put out
unfoldable pub output_sum : List RanJob → ℕ
output_sum [] = 0
output_sum (r ∷ older) = output_sum older + sum r.state.output

unfoldable pub summary_of : ℕ → List RanJob → Summary
summary_of seed jobs =
    record {
      seed = seed;
      jobs = length jobs;
      fast = count_of is_fast jobs;
      missed = count_of is_missed jobs;
      latest_ps = latest_end jobs;
      sum = output_sum jobs % 2 ^ 32;
    }

-- the lines of the demonstration: all jobs of its plan run with the static predictor, and these are what they come to
pub record IsDemo (seed : ℕ) (p : Plan) (lines : List (List ℕ)) : Type 0 where
  pub jobs : List RanJob
  pub are_run : AreRunOf Static p jobs
  pub all : length jobs ≡ length p.jobs.inputs
  pub lines_are : lines ≡ summary_lines (summary_of seed jobs)
