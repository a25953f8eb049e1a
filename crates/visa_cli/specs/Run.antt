-- The jobs of a plan, one after the other, and their log. This project's own.
use Rattle.std.specs.Prelude.{◌≡◌, ℕ, List, [], ◌∷◌, ◌++◌, length, map, reverse}
use Rattle.visa_io.specs.declared.records.Span.{Span}
use Rattle.command_line.specs.declared.forms.PredictorKind.{PredictorKind}
use Rattle.command_line.specs.declared.forms.PredictorKind.TheVariants.{Static, Bimodal, Gshare}
use Rattle.predictors.specs.Predicting.{guess_by_numbers, made_of, numbers_after, numbers_of}
use Rattle.predictors.specs.declared.builtin.Builtin.{Builtin}
use Rattle.predictors.specs.declared.builtin.PredictorKind.TheVariants as builtin
use Rattle.ooo_clock.specs.Clock.{Predicts}
use Rattle.frequency_pick.specs.Counts.{Count, count}
use Rattle.task_text.specs.JobInputs.{input_of}
use Rattle.task_text.specs.declared.jobs.Past.{Past}
use Rattle.log_text.specs.Lines.{record_lines, run_header, simple_header}
use Rattle.admission.specs.declared.mode.Mode.{Mode}
use Rattle.admission.specs.declared.mode.Mode.TheVariants.{Simple, Fast}
use Rattle.mode_states.specs.Kept.{kept_of}
use Rattle.job_runner.specs.Job.{RanJob, Setting}
use Rattle.job_runner.specs.Run.{AreRun}
use Rattle.visa_cli.specs.declared.plan.Plan.{Plan}

-- the predictor of a kind, which has learnt nothing
abbrev pub predictor_of : PredictorKind → Builtin
predictor_of Static = made_of builtin.Static
predictor_of Bimodal = made_of builtin.Bimodal
predictor_of Gshare = made_of builtin.Gshare

-- what the built-in predictors guess and learn
abbrev pub builtin_predicts : Predicts
builtin_predicts = record { guess = guess_by_numbers; learnt = numbers_after }

-- the past counts that a jobs text tells, newest first
abbrev pub told_counts : List Past → List Count
told_counts past = reverse (map (λ (p : Past). count p.sub p.cycles) past)

-- what the jobs of a plan share, and what the first of them finds
unfoldable pub setting_of : PredictorKind → Plan → Setting
setting_of kind p =
    record {
      kept = kept_of p.task p.entry p.times;
      output_max = p.task.out_max;
      predicts = builtin_predicts;
      memory = p.memory;
      numbers = numbers_of (predictor_of kind);
      past = told_counts p.jobs.past;
    }

-- the first jobs of a plan, newest first
abbrev pub AreRunOf : PredictorKind → Plan → List RanJob → Type 0
AreRunOf kind p jobs = AreRun p.mode (setting_of kind p) (input_of p.jobs) jobs

-- the first line of a log
abbrev pub header_of : Mode → List ℕ
header_of Simple = simple_header
header_of Fast = run_header

-- the lines of a log of jobs, newest first: the first line, then those of each job in order
abbrev pub log_lines : Mode → List Span → List RanJob → List (List ℕ)
log_lines mode show [] = header_of mode ∷ []
log_lines mode show (r ∷ older) = log_lines mode show older ++ record_lines r.job r.counts r.state show

-- the log of a plan: all its jobs, one after the other
pub record IsLog (kind : PredictorKind) (p : Plan) (lines : List (List ℕ)) : Type 0 where
  pub jobs : List RanJob
  pub are_run : AreRunOf kind p jobs
  pub all : length jobs ≡ length p.jobs.inputs
  pub lines_are : lines ≡ log_lines p.mode p.task.show jobs
