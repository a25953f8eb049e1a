-- The run of a plan: there is one, it has all jobs, and each of them ends in time and leaves fast mode only at a miss.
use Rattle.std.proofs.Common.{◌≡◌, ◌∙◌, refl, sym, ap, subst, ℕ, zero, suc, ◌+◌, ◌-◌, ◌≤◌, List, [], ◌∷◌, ◌++◌, length, append_assoc, append-nil, arith, inl, inr}
use Rattle.std.specs.Prelude.{◌⊎◌}
use Rattle.std.specs.List.{AllByRecursion}
use Rattle.command_line.specs.declared.forms.PredictorKind.{PredictorKind}
use Rattle.command_line.specs.declared.forms.PredictorKind.TheVariants.{Static}
use Rattle.task_text.specs.JobInputs.{input_of}
use Rattle.task_text.proofs.JobInputs.{input_short}
use Rattle.log_text.specs.Demo.{summary_lines}
use Rattle.log_text.specs.Lines.{record_lines}
use Rattle.log_text.specs.declared.record.JobMode.{JobMode}
use Rattle.admission.specs.declared.mode.Mode.{Mode}
use Rattle.admission.specs.declared.mode.Mode.TheVariants.{Simple, Fast}
use Rattle.mode_states.specs.Kept.{kept_of}
use Rattle.job_runner.specs.Job.{Before, EndsFast, EndsMissed, RanJob, RunsSimple, Setting, course_in}
use Rattle.job_runner.specs.Opens.{AllFit, IsInTime, IsRunnable}
use Rattle.job_runner.specs.Run.{AreRun, Runs, before}
use Rattle.job_runner.proofs.Once.{run_once}
use Rattle.job_runner.proofs.Runnable.{admitted_runs}
use Rattle.job_runner.proofs.Whole.{run_has, run_in_time}
use Rattle.visa_cli.specs.Clauses.{AllLeaveOnlyAtMiss, LeavesOnlyAtMiss}
use Rattle.visa_cli.specs.Demo.{IsDemo, latest_end, summary_of}
use Rattle.visa_cli.specs.Run.{AreRunOf, IsLog, log_lines, setting_of}
use Rattle.visa_cli.specs.Running.{MayRun}
use Rattle.visa_cli.specs.declared.plan.Plan.{Plan}

pub fits_buffer : (p : Plan) (k : ℕ) → MayRun p → length (input_of p.jobs k) ≤ p.task.input_len
fits_buffer p k runnable = input_short p.task p.jobs runnable.inputs k

-- a plan that may run is a run of its task's admission

can_run : (kind : PredictorKind) (p : Plan) → MayRun p → IsRunnable p.mode (setting_of kind p)
unfolding setting_of
can_run kind p may =
    let made = may.made in
    let Runs : Mode → Type 0 = λ m. IsRunnable m (setting_of kind p) in
    subst Runs may.mode_is
    (admitted_runs made.mode p.task made.image p.times (setting_of kind p) made.limits made.admitted made.ready
    (ap (λ e. kept_of p.task e p.times) made.entry_is) refl)

all_fit : (kind : PredictorKind) (p : Plan) → MayRun p → AllFit (setting_of kind p) (input_of p.jobs)
unfolding setting_of
all_fit kind p may = λ k. fits_buffer p k may

deadline_of : (kind : PredictorKind) (p : Plan) (r : RanJob) → IsInTime (setting_of kind p) r → r.job.end_ps ≤ p.task.deadline_ps
unfolding setting_of
deadline_of kind p r is = is.in_time

-- one job more, where there are as many in all
next_after : (mode : Mode) (s : Setting) (inputs : ℕ → List ℕ) (jobs all : List RanJob) → AreRun mode s inputs jobs → AreRun mode s inputs all
    → length all ≡ suc (length jobs) → (r : RanJob) × Runs mode s (before s jobs) (inputs (length jobs)) r
next_after mode s inputs jobs [] run all long = absurd (omega (arith, long))
next_after mode s inputs jobs (r ∷ older) run all long =
    let same = run_once mode s inputs older jobs all.1 run (omega (arith, long)) in
    let Next : List RanJob → Type 0 = λ js. Runs mode s (before s js) (inputs (length js)) r in
    (r, subst Next same all.0)

-- there is a job after any jobs of a plan
one_more : (kind : PredictorKind) (p : Plan) (jobs : List RanJob) → MayRun p → AreRunOf kind p jobs
    → (r : RanJob) × Runs p.mode (setting_of kind p) (before (setting_of kind p) jobs) (input_of p.jobs (length jobs)) r
one_more kind p jobs runnable are =
    let s : Setting = setting_of kind p in
    let more = run_has p.mode s (input_of p.jobs) (suc (length jobs)) (can_run kind p runnable) (all_fit kind p runnable) in
    next_after p.mode s (input_of p.jobs) jobs more.0 are more.1 more.2

-- every job of it ends by the deadline
pub all_in_time : (kind : PredictorKind) (p : Plan) (jobs : List RanJob) → MayRun p → AreRunOf kind p jobs
    → AllByRecursion (λ (r : RanJob). r.job.end_ps ≤ p.task.deadline_ps) jobs
all_in_time kind p jobs runnable are =
    by jobs (run_in_time p.mode (setting_of kind p) (input_of p.jobs) jobs (can_run kind p runnable) (all_fit kind p runnable) are)
  where
    by : (js : List RanJob) → AllByRecursion (IsInTime (setting_of kind p)) js → AllByRecursion (λ (r : RanJob). r.job.end_ps ≤ p.task.deadline_ps) js
    by [] all = tt
    by (r ∷ older) all = (deadline_of kind p r all.0, by older all.1)

-- a job leaves fast mode only at a miss
leaves_fast : (s : Setting) (b : Before) (input : List ℕ) (r : RanJob) → EndsFast s b input r ⊎ EndsMissed s b input r
    → LeavesOnlyAtMiss Fast (course_in s b input) r.job.mode
leaves_fast s b input r (inl fast) =
    let Leaves : JobMode → Type 0 = λ m. LeavesOnlyAtMiss Fast (course_in s b input) m in subst Leaves (sym fast.mode_is) fast.never
leaves_fast s b input r (inr missed) =
    let Leaves : JobMode → Type 0 = λ m. LeavesOnlyAtMiss Fast (course_in s b input) m in
    subst Leaves (sym missed.mode_is) (missed.missed, refl)

leaves_simple : (s : Setting) (b : Before) (input : List ℕ) (r : RanJob) → RunsSimple s b input r → LeavesOnlyAtMiss Simple (course_in s b input) r.job.mode
leaves_simple s b input r runs =
    let Leaves : JobMode → Type 0 = λ m. LeavesOnlyAtMiss Simple (course_in s b input) m in subst Leaves (sym runs.mode_is) tt

leaves : (mode : Mode) (s : Setting) (b : Before) (input : List ℕ) (r : RanJob) → Runs mode s b input r → LeavesOnlyAtMiss mode (course_in s b input) r.job.mode
leaves Simple s b input r runs = leaves_simple s b input r runs
leaves Fast s b input r runs = leaves_fast s b input r runs.ends

pub all_leave : (mode : Mode) (s : Setting) (inputs : ℕ → List ℕ) (jobs : List RanJob) → AreRun mode s inputs jobs → AllLeaveOnlyAtMiss mode s inputs jobs
all_leave mode s inputs [] are = tt
all_leave mode s inputs (r ∷ older) are =
    (leaves mode s (before s older) (inputs (length older)) r are.0, all_leave mode s inputs older are.1)

-- all jobs of a plan, of which some are known
pub record Completed (kind : PredictorKind) (p : Plan) (jobs : List RanJob) : Type 0 where
  pub all : List RanJob
  pub are_run : AreRunOf kind p all
  pub count : length all ≡ length p.jobs.inputs
  pub rest : List (List ℕ)
  pub lines : log_lines p.mode p.task.show all ≡ log_lines p.mode p.task.show jobs ++ rest

completed_by : (kind : PredictorKind) (p : Plan) (left : ℕ) (jobs : List RanJob) → MayRun p → AreRunOf kind p jobs
    → left + length jobs ≡ length p.jobs.inputs → Completed kind p jobs
completed_by kind p zero jobs runnable are count = record {
  all = jobs;
  are_run = are;
  count = omega (arith, count);
  rest = [];
  lines = sym (append-nil (log_lines p.mode p.task.show jobs));
}
completed_by kind p (suc left) jobs runnable are count =
    let next = one_more kind p jobs runnable are in
    let more = completed_by kind p left (next.0 ∷ jobs) runnable (next.1, are) (omega (arith, count)) in
    let added = record_lines next.0.job next.0.counts next.0.state p.task.show in
    record {
      all = more.all;
      are_run = more.are_run;
      count = more.count;
      rest = added ++ more.rest;
      lines = more.lines ∙ append_assoc (log_lines p.mode p.task.show jobs) added more.rest;
    }

pub completed : (kind : PredictorKind) (p : Plan) (jobs : List RanJob) → MayRun p → AreRunOf kind p jobs → length jobs ≤ length p.jobs.inputs
    → Completed kind p jobs
completed kind p jobs runnable are some = completed_by kind p (length p.jobs.inputs - length jobs) jobs runnable are (omega (arith, some))

-- every plan that may run has a log
pub log_of : (kind : PredictorKind) (p : Plan) → MayRun p → (lines : List (List ℕ)) × IsLog kind p lines
log_of kind p runnable =
    let whole = completed kind p [] runnable tt (omega arith) in (
      log_lines p.mode p.task.show whole.all,
      record { jobs = whole.all; are_run = whole.are_run; all = whole.count; lines_are = refl },
    )

-- a plan has one log
pub one_log : (kind : PredictorKind) (p : Plan) (lines others : List (List ℕ)) → IsLog kind p lines → IsLog kind p others → lines ≡ others
one_log kind p lines others a b =
    a.lines_are ∙ ap (log_lines p.mode p.task.show) (run_once p.mode (setting_of kind p) (input_of p.jobs) a.jobs b.jobs a.are_run b.are_run (a.all ∙ sym b.all)) ∙ sym b.lines_are

-- the jobs of the demonstration come to one thing, and they do

pub one_demo : (seed : ℕ) (p : Plan) (lines others : List (List ℕ)) → IsDemo seed p lines → IsDemo seed p others → lines ≡ others
one_demo seed p lines others a b =
    a.lines_are
    ∙ ap (λ js. summary_lines (summary_of seed js))
    (run_once p.mode (setting_of Static p) (input_of p.jobs) a.jobs b.jobs a.are_run b.are_run (a.all ∙ sym b.all)) ∙ sym b.lines_are

pub demo_of : (seed : ℕ) (p : Plan) → MayRun p → (lines : List (List ℕ)) × IsDemo seed p lines
demo_of seed p runnable =
    let whole = completed Static p [] runnable tt (omega arith) in (
      summary_lines (summary_of seed whole.all),
      record { jobs = whole.all; are_run = whole.are_run; all = whole.count; lines_are = refl },
    )

-- where each job ends in time, so does the latest
pub latest_in_time : (deadline : ℕ) (jobs : List RanJob) → AllByRecursion (λ (r : RanJob). r.job.end_ps ≤ deadline) jobs → latest_end jobs ≤ deadline
unfolding latest_end
latest_in_time deadline [] all = omega arith
latest_in_time deadline (r ∷ older) all = omega (arith, all.0, latest_in_time deadline older all.1)
