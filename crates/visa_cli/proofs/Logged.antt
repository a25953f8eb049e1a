-- A log grows by the lines of one job after the other.
use Rattle.std.proofs.Common.{◌≡◌, ◌∙◌, refl, sym, ap, subst, ℕ, ◌+◌, ◌<◌, ◌≤◌, List, [], ◌∷◌, length, arith}
use Rattle.std.specs.Prelude.{Ok, Err, ⊤}
use Rattle.visa_io.specs.Puts.{Put, PutAll, PutFailed, PutSome, Taken}
use Rattle.visa_io.proofs.PutLaws.{fails_one, puts_both, puts_one, puts_then_some, some_of_longer}
use Rattle.visa_io.specs.declared.sink.SinkFailed.{SinkFailed}
use Rattle.mips_ref.specs.Memory.{Flat}
use Rattle.command_line.specs.declared.forms.PredictorKind.{PredictorKind}
use Rattle.predictors.specs.Predicting.{numbers_of}
use Rattle.predictors.specs.declared.builtin.Builtin.{Builtin}
use Rattle.log_text.specs.Lines.{record_lines}
use Rattle.log_text.specs.declared.record.JobRecord.{JobRecord}
use Rattle.task_text.specs.JobInputs.{input_of}
use Rattle.task_text.specs.declared.jobs.Jobs.{Jobs as JobsOf}
use Rattle.task_text.specs.declared.jobs.Past.{Past}
use Rattle.task_text.specs.declared.task.Task.{Task as TaskOf}
use Rattle.admission.specs.Admitted.{Times}
use Rattle.admission.specs.declared.mode.Mode.{Mode}
use Rattle.mode_states.specs.Kept.{kept_of}
use Rattle.mode_states.specs.declared.kept.Kept.{Kept}
use Rattle.job_runner.specs.Job.{Before, RanJob, Setting}
use Rattle.job_runner.specs.Run.{Runs, all_counts, before}
use Rattle.job_runner.specs.Running.{HasRun, Running, StandsAt, next, ran_by}
use Rattle.visa_cli.specs.Run.{AreRunOf, IsLog, builtin_predicts, header_of, log_lines, predictor_of, setting_of}
use Rattle.visa_cli.specs.Running.{HasLogged, IsOpened, IsPlannedIn, Logs, MayRun, plan_on}
use Rattle.visa_cli.specs.declared.plan.Plan.{Plan}
use Rattle.visa_cli.proofs.PlanRuns.{completed, fits_buffer}

-- what the next job finds
next_is : (s : Setting) (r : RanJob) (older : List RanJob) → next s (before s older) r ≡ before s (r ∷ older)
unfolding before all_counts
next_is s r [] = refl
next_is s r (q ∷ older) = refl

-- a runner that was opened for a plan's task, and its own plan

kept_same : (t : TaskOf) (entry : ℕ) (times : Times) (k : Kept) → k ≡ kept_of t entry times → k ≡ kept_of t k.entry k.admitted
kept_same t entry times k is =
    let entry_is : k.entry ≡ entry = ap (λ (q : Kept). q.entry) is in
    let times_are : k.admitted ≡ times = ap (λ (q : Kept). q.admitted) is in
    is ∙ sym (λ i. kept_of t (entry_is i) (times_are i))

opened_stands : (kind : PredictorKind) (mode : Mode) (t : TaskOf) (entry : ℕ) (times : Times) (m : Flat) (jobs : JobsOf) (r : Running)
    → IsOpened t entry times m jobs.past r
    → StandsAt (setting_of kind (plan_on mode t jobs r)) (before (setting_of kind (plan_on mode t jobs r)) []) r (numbers_of (predictor_of kind))
unfolding setting_of before
opened_stands kind mode t entry times m jobs r opened = record {
  kept = kept_same t entry times r.idle.kept opened.kept;
  memory = refl;
  output_max = opened.output_max;
  numbers_are = refl;
  counts = opened.counts;
  ran_is = omega (arith, opened.ran);
}

opened_plan : (mode : Mode) (t : TaskOf) (entry : ℕ) (times : Times) (m : Flat) (jobs : JobsOf) (r : Running)
    → IsOpened t entry times m jobs.past r
    → plan_on mode t jobs r ≡ record { mode = mode; task = t; entry = entry; memory = m; times = times; jobs = jobs }
opened_plan mode t entry times m jobs r opened =
    let entry_is : r.idle.kept.entry ≡ entry = ap (λ (q : Kept). q.entry) opened.kept in
    let times_are : r.idle.kept.admitted ≡ times = ap (λ (q : Kept). q.admitted) opened.kept in
    λ i. record { mode = mode; task = t; entry = entry_is i; memory = opened.memory i; times = times_are i; jobs = jobs }

-- the same of a whole plan, whose past counts were told

opened_with : (p : Plan) (told : List Past) (r : Running) → told ≡ p.jobs.past → IsOpened p.task p.entry p.times p.memory told r
    → IsOpened p.task p.entry p.times p.memory p.jobs.past r
opened_with p told r same opened = let Of : List Past → Type 0 = λ ps. IsOpened p.task p.entry p.times p.memory ps r in subst Of same opened

pub plan_is : (p : Plan) (told : List Past) (r : Running) → told ≡ p.jobs.past → IsOpened p.task p.entry p.times p.memory told r
    → plan_on p.mode p.task p.jobs r ≡ p
plan_is p told r same opened = opened_plan p.mode p.task p.entry p.times p.memory p.jobs r (opened_with p told r same opened)

pub plan_stands : (kind : PredictorKind) (p : Plan) (told : List Past) (r : Running) → told ≡ p.jobs.past → IsOpened p.task p.entry p.times p.memory told r
    → StandsAt (setting_of kind (plan_on p.mode p.task p.jobs r)) (before (setting_of kind (plan_on p.mode p.task p.jobs r)) []) r (numbers_of (predictor_of kind))
plan_stands kind p told r same opened =
    opened_stands kind p.mode p.task p.entry p.times p.memory p.jobs r (opened_with p told r same opened)

-- a runner of a plan may run the next job

kept_is : (kind : PredictorKind) (p : Plan) (b : Before) (r : Running) (numbers : List ℕ) → StandsAt (setting_of kind p) b r numbers
    → r.idle.kept ≡ kept_of p.task p.entry p.times
unfolding setting_of
kept_is kind p b r numbers stands = stands.kept

pub room_kept : (kind : PredictorKind) (p : Plan) (b : Before) (r : Running) (numbers : List ℕ) → StandsAt (setting_of kind p) b r numbers
    → r.idle.state.mips.output_max ≡ p.task.out_max
unfolding setting_of
room_kept kind p b r numbers stands = stands.output_max

pub input_fits : (kind : PredictorKind) (p : Plan) (k : ℕ) (b : Before) (r : Running) (numbers input : List ℕ) → MayRun p
    → StandsAt (setting_of kind p) b r numbers → input ≡ input_of p.jobs k → length input ≤ r.idle.kept.input_len
input_fits kind p k b r numbers input runnable stands is =
    omega (arith, fits_buffer p k runnable, ap (λ (xs : List ℕ). length xs) is, ap (λ (q : Kept). q.input_len) (kept_is kind p b r numbers stands))

pub still_planned : (kind : PredictorKind) (p : Plan) (b : Before) (r : Running) (numbers : List ℕ) → MayRun p
    → StandsAt (setting_of kind p) b r numbers → IsPlannedIn p.mode r.idle.kept
still_planned kind p b r numbers runnable stands =
    let Planned : Kept → Type 0 = λ k. IsPlannedIn p.mode k in subst Planned (sym (kept_is kind p b r numbers stands)) runnable.planned

-- the job that it ran is the next of the plan

pub record IsNext (kind : PredictorKind) (p : Plan) (older : List RanJob) (r : RanJob) (x : Running) (numbers : List ℕ) : Type 0 where
  pub are_run : AreRunOf kind p (r ∷ older)
  pub stands : StandsAt (setting_of kind p) (before (setting_of kind p) (r ∷ older)) x numbers

predicts_is : (kind : PredictorKind) (p : Plan) → (setting_of kind p).predicts ≡ builtin_predicts
unfolding setting_of
predicts_is kind p = refl

pub next_run : (kind : PredictorKind) (p : Plan) (k : ℕ) (old new : Running) (job : JobRecord) (was is input : List ℕ) (older : List RanJob) → AreRunOf kind p older
    → length older ≡ k → StandsAt (setting_of kind p) (before (setting_of kind p) older) old was → input ≡ input_of p.jobs k
    → HasRun p.mode builtin_predicts old was input new job is → IsNext kind p older (ran_by new job is) new is
next_run kind p k old new job was is input older are count stands same runs =
    let s : Setting = setting_of kind p in
    let r : RanJob = ran_by new job is in
    let With : List ℕ → Type 0 = λ xs. Runs p.mode s (before s older) xs r in
    let At : Before → Type 0 = λ b. StandsAt s b new is in
    record {
      are_run = (subst With (same ∙ ap (input_of p.jobs) (sym count)) (runs.runs s (before s older) (predicts_is kind p) stands), are);
      stands = subst At (next_is s r older) (runs.stands s (before s older) stands);
    }

-- before the first job
pub first_logged : (kind : PredictorKind) (p : Plan) (r : Running) (predictor : Builtin) (s0 s1 : Taken) (head : List ℕ) → predictor ≡ predictor_of kind
    → head ≡ header_of p.mode → StandsAt (setting_of kind p) (before (setting_of kind p) []) r (numbers_of (predictor_of kind)) → Put s0 s1 head
    → HasLogged kind p 0 r (numbers_of predictor) s0 s1
first_logged kind p r predictor s0 s1 head first is stands put =
    let At : Builtin → Type 0 = λ b. StandsAt (setting_of kind p) (before (setting_of kind p) []) r (numbers_of b) in
    let Head : List ℕ → Type 0 = λ h. Put s0 s1 h in
    record { jobs = []; are_run = tt; all = refl; stands = subst At (sym first) stands; puts = puts_one (subst Head is put) }

-- a part of the lines of some jobs is a part of the log
log_part : (kind : PredictorKind) (p : Plan) (jobs : List RanJob) (s0 s1 : Taken) → MayRun p → AreRunOf kind p jobs → length jobs ≤ length p.jobs.inputs
    → PutSome s0 s1 (log_lines p.mode p.task.show jobs) → (lines : List (List ℕ)) × IsLog kind p lines × PutSome s0 s1 lines
log_part kind p jobs s0 s1 runnable are some part =
    let whole = completed kind p jobs runnable are some in
    let Some : List (List ℕ) → Type 0 = λ lines. PutSome s0 s1 lines in (
      log_lines p.mode p.task.show whole.all,
      record { jobs = whole.all; are_run = whole.are_run; all = whole.count; lines_are = refl },
      subst Some (sym whole.lines) (some_of_longer whole.rest part),
    )

-- the first line wasn't put whole
pub header_stops : (kind : PredictorKind) (p : Plan) (s0 s1 : Taken) (e : SinkFailed) (head : List ℕ) → head ≡ header_of p.mode → MayRun p → PutFailed s0 s1 head
    → Logs kind p s0 s1 (Err e)
header_stops kind p s0 s1 e head is runnable failed =
    let Head : List ℕ → Type 0 = λ h. PutFailed s0 s1 h in log_part kind p [] s0 s1 runnable tt (omega arith) (fails_one (subst Head is failed))

-- the machine keeps its room for output
pub next_room : (kind : PredictorKind) (p : Plan) (k : ℕ) (old new : Running) (job : JobRecord) (was is : List ℕ) (s0 s1 : Taken) (input : List ℕ)
    → HasLogged kind p k old was s0 s1 → HasRun p.mode builtin_predicts old was input new job is → new.idle.state.mips.output_max ≡ p.task.out_max
next_room kind p k old new job was is s0 s1 input logged runs =
    room_kept kind p _ new is (runs.stands (setting_of kind p) (before (setting_of kind p) logged.jobs) logged.stands)

-- one job more
pub next_logged : (kind : PredictorKind) (p : Plan) (k : ℕ) (old new : Running) (job : JobRecord) (was is : List ℕ) (s0 s1 s2 : Taken) (input : List ℕ)
    → HasLogged kind p k old was s0 s1 → input ≡ input_of p.jobs k → HasRun p.mode builtin_predicts old was input new job is
    → PutAll s1 s2 (record_lines job new.idle.counts new.idle.state.mips p.task.show) → HasLogged kind p (k + 1) new is s0 s2
next_logged kind p k old new job was is s0 s1 s2 input logged same runs puts =
    let following = next_run kind p k old new job was is input logged.jobs logged.are_run logged.all logged.stands same runs in
    record {
      jobs = ran_by new job is ∷ logged.jobs;
      are_run = following.are_run;
      all = omega (arith, logged.all);
      stands = following.stands;
      puts = puts_both logged.puts puts;
    }

-- a job whose lines the sink broke off
pub log_stops : (kind : PredictorKind) (p : Plan) (k : ℕ) (old new : Running) (job : JobRecord) (was is : List ℕ) (s0 s1 s2 : Taken) (e : SinkFailed)
    (input : List ℕ) → MayRun p
    → HasLogged kind p k old was s0 s1 → k < length p.jobs.inputs → input ≡ input_of p.jobs k → HasRun p.mode builtin_predicts old was input new job is
    → PutSome s1 s2 (record_lines job new.idle.counts new.idle.state.mips p.task.show) → Logs kind p s0 s2 (Err e)
log_stops kind p k old new job was is s0 s1 s2 e input runnable logged below same runs some =
    let following = next_run kind p k old new job was is input logged.jobs logged.are_run logged.all logged.stands same runs in
    log_part kind p (ran_by new job is ∷ logged.jobs) s0 s2 runnable following.are_run (omega (arith, logged.all, below)) (puts_then_some logged.puts some)

-- the whole log
pub all_logged : (kind : PredictorKind) (p : Plan) (k : ℕ) (r : Running) (numbers : List ℕ) (s0 s1 : Taken) (u : ⊤) → HasLogged kind p k r numbers s0 s1
    → k ≡ length p.jobs.inputs → Logs kind p s0 s1 (Ok u)
all_logged kind p k r numbers s0 s1 u logged all = (
  log_lines p.mode p.task.show logged.jobs,
  record { jobs = logged.jobs; are_run = logged.are_run; all = logged.all ∙ all; lines_are = refl },
  logged.puts,
)
