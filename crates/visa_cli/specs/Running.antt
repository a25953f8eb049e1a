-- Working definitions: what the code keeps while jobs run one after the other. No clause of the top call cites them.
use Rattle.std.specs.Prelude.{◌≡◌, ℕ, ◌+◌, ◌*◌, ◌%◌, ◌^◌, ◌≤◌, max, All, List, [], length, Result, ⊤}
use Rattle.std.specs.List.{sum}
use Rattle.visa_io.specs.Puts.{PutAll, Puts, Taken}
use Rattle.visa_io.specs.declared.sink.SinkFailed.{SinkFailed}
use Rattle.mips_ref.specs.Memory.{Flat}
use Rattle.visa_io.specs.declared.records.Image.{Image}
use Rattle.command_line.specs.declared.forms.PredictorKind.{PredictorKind}
use Rattle.frequency_pick.specs.Counts.{StandsFor}
use Rattle.list_text.specs.Lists.{list_lines}
use Rattle.task_text.specs.JobInputs.{AreInputsOf}
use Rattle.task_text.specs.LineRooms.{Roomed}
use Rattle.task_text.specs.declared.jobs.Jobs.{Jobs as JobsOf}
use Rattle.task_text.specs.declared.jobs.Past.{Past}
use Rattle.task_text.specs.declared.task.Task.{Task as TaskOf}
use Rattle.admission.specs.Admitted.{Times}
use Rattle.admission.specs.declared.mode.Mode.{Mode}
use Rattle.admission.specs.declared.mode.Mode.TheVariants.{Simple, Fast}
use Rattle.mode_states.specs.Kept.{IsMadeOf, IsPlanned, kept_of}
use Rattle.mode_states.specs.declared.kept.Kept.{Kept}
use Rattle.predictors.specs.Predicting.{numbers_of}
use Rattle.job_runner.specs.Job.{RanJob}
use Rattle.job_runner.specs.Run.{before}
use Rattle.job_runner.specs.Running.{Running, StandsAt, fastest_pair}
use Rattle.log_text.specs.declared.demo.Summary.{Summary}
use Rattle.log_text.specs.declared.record.JobRecord.{JobRecord}
use Rattle.command_line.specs.declared.forms.PredictorKind.TheVariants.{Static}
use Rattle.visa_cli.specs.Check.{check_lines}
use Rattle.visa_cli.specs.Demo.{is_fast, is_missed, one_if, summary_of}
use Rattle.visa_cli.specs.Clauses.{EndsByOrMemory}
use Rattle.visa_cli.specs.Run.{AreRunOf, IsLog, log_lines, predictor_of, setting_of, told_counts}
use Rattle.visa_cli.specs.declared.plan.Plan.{Plan}
use Rattle.visa_cli.specs.declared.status.Status.{Status}
use Rattle.visa_cli.specs.declared.status.Status.TheVariants.{Done}

-- past counts, each of a sub-task of so many
abbrev pub ArePast : ℕ → List Past → Type 0
ArePast subs past = All (λ (p : Past). (1 ≤ p.sub) × (p.sub ≤ subs)) past

-- in fast mode the fastest pair of points has a plan
abbrev pub IsPlannedIn : Mode → Kept → Type 0
IsPlannedIn Simple k = Unit {0}
IsPlannedIn Fast k = IsPlanned k (fastest_pair k)

-- a plan whose jobs may run
pub record MayRun (p : Plan) : Type 0 where
  pub made : IsMadeOf p.task p.entry p.times p.memory
  pub mode_is : made.mode ≡ p.mode
  pub planned : IsPlannedIn p.mode (kept_of p.task p.entry p.times)
  pub inputs : AreInputsOf p.task p.jobs
  pub past : ArePast (length p.task.cuts + 1) p.jobs.past

-- an empty line with room for each line of a log of the task
pub record IsRoomOf (t : TaskOf) (r : Roomed) : Type 0 where
  pub empty : r.line ≡ []
  pub room : r.room ≡ 1024 + 9 * t.out_max

-- a runner of a task's jobs before the first of them, to which their past counts were told
pub record IsOpened (t : TaskOf) (entry : ℕ) (times : Times) (m : Flat) (past : List Past) (r : Running) : Type 0 where
  pub kept : r.idle.kept ≡ kept_of t entry times
  pub memory : r.idle.state.mips.memory ≡ m
  pub output_max : r.idle.state.mips.output_max ≡ t.out_max
  pub counts : StandsFor r.history (told_counts past)
  pub ran : r.ran ≡ 0

-- the plan of jobs of a task, of which a runner has the rest
abbrev pub plan_on : Mode → TaskOf → JobsOf → Running → Plan
plan_on mode t jobs r =
    record {
      mode = mode;
      task = t;
      entry = r.idle.kept.entry;
      memory = r.idle.state.mips.memory;
      times = r.idle.kept.admitted;
      jobs = jobs;
    }

-- a runner of a plan's jobs before the first of them, with each predictor
abbrev pub StandsFirst : Plan → Running → Type 0
StandsFirst p r =
    (kind : PredictorKind)
    → StandsAt (setting_of kind p) (before (setting_of kind p) []) r (numbers_of (predictor_of kind))

-- a runner, its predictor and a sink after the first jobs of a plan
pub record HasLogged (kind : PredictorKind) (p : Plan) (number : ℕ) (r : Running) (numbers : List ℕ)
    (old new : Taken) : Type 0 where
  pub jobs : List RanJob
  pub are_run : AreRunOf kind p jobs
  pub all : length jobs ≡ number
  pub stands : StandsAt (setting_of kind p) (before (setting_of kind p) jobs) r numbers
  pub puts : PutAll old new (log_lines p.mode p.task.show jobs)

-- the log of a plan was put, all or some where the sink failed
abbrev pub Logs : PredictorKind → Plan → Taken → Taken → Result ⊤ SinkFailed → Type 0
Logs kind p old new result = (lines : List (List ℕ)) × IsLog kind p lines × Puts old new lines result

-- how a call that prints lines of a value ends
abbrev pub EndsPrinting : {A : Type 0} → (A → List (List ℕ) → Type 0) → A → Taken → Taken → Status → Type 0
EndsPrinting Prints a old new status = (lines : List (List ℕ)) × Prints a lines × EndsByOrMemory old new Done lines status

-- how a call that checks a task ends
abbrev pub Tells : TaskOf → Times → Taken → Taken → Status → Type 0
Tells t times old new status = EndsByOrMemory old new Done (check_lines t times) status

-- how a call that lists the code of an image ends
abbrev pub Lists : Image → Taken → Taken → Status → Type 0
Lists image old new status = EndsByOrMemory old new Done (list_lines image) status

-- what jobs come to with one job more, which put out these words
abbrev pub with_job : Summary → JobRecord → List ℕ → Summary
with_job s job output =
    record {
      seed = s.seed;
      jobs = s.jobs + 1;
      fast = s.fast + one_if (is_fast job.mode);
      missed = s.missed + one_if (is_missed job.mode);
      latest_ps = max s.latest_ps job.end_ps;
      sum = (s.sum + sum output % 2 ^ 32) % 2 ^ 32;
    }

-- a runner, its predictor and a summary after the first jobs of a plan
pub record HasSummed (seed : ℕ) (p : Plan) (number : ℕ) (r : Running) (numbers : List ℕ)
    (summary : Summary) : Type 0 where
  pub jobs : List RanJob
  pub are_run : AreRunOf Static p jobs
  pub all : length jobs ≡ number
  pub stands : StandsAt (setting_of Static p) (before (setting_of Static p) jobs) r numbers
  pub summary_is : summary ≡ summary_of seed jobs

-- what all jobs of a plan come to
pub record HasSummary (seed : ℕ) (p : Plan) (summary : Summary) : Type 0 where
  pub jobs : List RanJob
  pub are_run : AreRunOf Static p jobs
  pub all : length jobs ≡ length p.jobs.inputs
  pub summary_is : summary ≡ summary_of seed jobs
