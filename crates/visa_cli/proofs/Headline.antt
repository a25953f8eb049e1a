-- Each job that a call logs is the reference's, and ends by its deadline.
use Rattle.std.proofs.Common.{◌≡◌, ◌∙◌, refl, sym, ap, subst, ℕ, ◌+◌, ◌-◌, ◌<◌, ◌≤◌, length, List, [], ◌∷◌, ◌++◌, Ok, append-nil, arith, inl, inr}
use Rattle.std.specs.Prelude.{◌⊎◌, ⊤, Option, None, Some, slice_index}
use Rattle.std.specs.List.{concat}
use Rattle.visa_io.specs.Puts.{Taken}
use Rattle.visa_io.specs.Reads.{Contents, Seen}
use Rattle.visa_io.specs.declared.records.Image.{Image}
use Rattle.visa_io.proofs.PutLaws.{some_prefix}
use Rattle.task_text.specs.Limits.{KeepsLimits}
use Rattle.task_text.specs.Texts.{IsGiven}
use Rattle.task_text.specs.declared.task.Task.{Task as TaskOf}
use Rattle.task_text.proofs.JobInputs.{are_inputs}
use Rattle.task_text.proofs.KeepsLimits.{keeps_limits}
use Rattle.task_text.proofs.Written.{given}
use Rattle.command_line.specs.Commands.{Asked, IsCommand}
use Rattle.command_line.specs.Commands as command
use Rattle.command_line.specs.declared.forms.PredictorKind.{PredictorKind}
use Rattle.command_line.specs.declared.forms.PredictorKind.TheVariants.{Static}
use Rattle.checkpoint_plan.specs.Plan.{owed_of}
use Rattle.checkpoint_plan.specs.declared.plan.Plan.{Plan as Checkpoints}
use Rattle.frequency_pick.specs.Choice.{plan_of}
use Rattle.task_text.specs.JobInputs.{AreInputsOf, input_of}
use Rattle.task_text.specs.declared.jobs.Jobs.{Jobs as JobsOf}
use Rattle.task_text.specs.TaskParts.{fastest_ps}
use Rattle.task_text.proofs.TaskParts.{last_is}
use Rattle.admission.specs.Admitted.{Times, needed_of}
use Rattle.admission.specs.Plans.{IsPlanOf}
use Rattle.admission.specs.Rows.{row_at}
use Rattle.mode_states.specs.Kept.{IsPlanned, kept_of}
use Rattle.job_runner.specs.Running.{fastest_pair}
use Rattle.admission.specs.declared.mode.Mode.{Mode}
use Rattle.admission.specs.declared.mode.Mode.TheVariants.{Fast, Simple}
use Rattle.visa_cli.specs.Admission.{AdmitsOn, IsFit}
use Rattle.list_text.specs.Lists.{list_lines}
use Rattle.visa_cli.specs.Check.{IsCheck, check_lines}
use Rattle.visa_cli.specs.Clauses.{AllLeaveOnlyAtMiss, Appended, Does, EndsByOrMemory, KeepsDeadline, ListsCode, LogsInTime, PrintsPart, SumsInTime, TellsOf, TellsTimes, command_in}
use Rattle.visa_cli.specs.Demo.{IsDemo}
use Rattle.visa_cli.specs.Listing.{IsListing}
use Rattle.demonstration.specs.Demonstration.{demo_jobs, demo_task}
use Rattle.visa_cli.specs.Product.{Asks, WordsAsk, told}
use Rattle.visa_cli.specs.Reads.{FileRead, WereRead}
use Rattle.visa_cli.specs.Run.{IsLog, log_lines, setting_of}
use Rattle.visa_cli.specs.Running.{ArePast, IsPlannedIn, MayRun}
use Rattle.visa_cli.specs.Stage.{Stage}
use Rattle.visa_cli.specs.Stages.{admission, admitted, demo, demo_admission, jobs, laid_out, listing, made, plan, task}
use Rattle.visa_cli.specs.Status.{line_of}
use Rattle.visa_cli.specs.declared.admit.AdmittedTask.{AdmittedTask}
use Rattle.visa_cli.specs.declared.plan.Plan.{Plan}
use Rattle.visa_cli.specs.declared.status.Role.{Role}
use Rattle.visa_cli.specs.declared.status.Status.{Status}
use Rattle.visa_cli.specs.declared.status.Status.TheVariants.{Memory, Usage}
use Rattle.visa_cli.proofs.Admissions.{admits_is}
use Rattle.visa_cli.proofs.Kept.{found_given}
use Rattle.demonstration.proofs.FirstJobs.{fits, past}
use Rattle.demonstration.proofs.Given.{limits}
use Rattle.visa_cli.proofs.PastCounts.{are_past, none_past}
use Rattle.visa_cli.proofs.PlanRuns.{all_in_time, all_leave, latest_in_time}
use Rattle.visa_cli.proofs.Proper.{IsProper, proper_check, proper_demo, proper_listing, proper_plan}

-- a job can open on the memory of an admitted task

task_given : (name : List ℕ) (reads : List FileRead) (t : TaskOf) → (task name).Gives reads t → IsGiven t
unfolding task
task_given name reads t is = given is.value t is.next_gives.1

pub fit_admitted : (mode : Mode) (t : TaskOf) (i : Image) (reads : List FileRead) (a : AdmittedTask) → KeepsLimits t → (admitted mode t i).Gives reads a → IsFit mode a
unfolding admitted laid_out
fit_admitted mode t i reads a limits is =
    let given : AdmitsOn mode t i is.value (Ok a) = is.next_gives.1 in
    subst (IsFit mode) (sym given.0) (record {
      image = i;
      limits = limits;
      entry_is = refl;
      admitted = admits_is mode t i a.times given.1;
      ready = is.first_gives.1.1;
    })

fit_of : (mode : Mode) (name : List ℕ) (reads : List FileRead) (a : AdmittedTask) → (admission mode name).Gives reads a → IsFit mode a
unfolding admission
fit_of mode name reads a is =
    fit_admitted mode is.value is.next_gives.value is.next_gives.late a
    (keeps_limits is.value (task_given name is.early is.value is.first_gives)) is.next_gives.next_gives

-- in fast mode the fastest pair of points has a plan, since its first checkpoint isn't negative
has_plan : (t : TaskOf) (times : Times) (a b : ℕ) (o : Option Checkpoints) → owed_of t.machine (slice_index t.points a) (slice_index t.points b) (row_at times.bounds b) ≤ t.deadline_ps
    → IsPlanOf t times.bounds a b o → (q : Checkpoints) × (o ≡ Some q)
has_plan t times a b (Some q) enough is = (q, refl)
has_plan t times a b None enough late = absurd (omega (arith, enough, late))

fast_planned : (a : AdmittedTask) → IsFit Fast a → IsPlanned (kept_of a.task a.entry a.times) (fastest_pair (kept_of a.task a.entry a.times))
unfolding needed_of
fast_planned a fit =
    let t : TaskOf = a.task in
    let last : ℕ = length t.points - 1 in
    let below : last < length t.points = omega (arith, fit.limits.points.some) in
    let period : slice_index t.points last ≡ fastest_ps t = last_is t.points in
    let Enough : ℕ → Type 0 = λ n. owed_of t.machine n n (row_at a.times.bounds last) ≤ t.deadline_ps in
    let plan_is = has_plan t a.times last last (plan_of a.times.plans (record { a = last; b = last })) (subst Enough (sym period) fit.admitted.in_time)
    (fit.admitted.plans.are last last below below) in
    record { speculative = below; recovery = below; plan = plan_is.0; is = plan_is.1 }

planned_fit : (mode : Mode) (a : AdmittedTask) → IsFit mode a → IsPlannedIn mode (kept_of a.task a.entry a.times)
planned_fit Simple a fit = tt
planned_fit Fast a fit = fast_planned a fit

-- so the jobs of a plan may run
pub may_run : (mode : Mode) (a : AdmittedTask) (js : JobsOf) → IsFit mode a → AreInputsOf a.task js → ArePast (length a.task.cuts + 1) js.past
    → MayRun (record { mode = mode; task = a.task; entry = a.entry; memory = a.memory; times = a.times; jobs = js })
may_run mode a js fit inputs past = record {
  made = record { mode = mode; image = fit.image; limits = fit.limits; admitted = fit.admitted; entry_is = fit.entry_is; ready = fit.ready };
  mode_is = refl;
  planned = planned_fit mode a fit;
  inputs = inputs;
  past = past;
}

pub runnable_of : (mode : Mode) (t j : List ℕ) (reads : List FileRead) (p : Plan) → (plan mode t j).Gives reads p → MayRun p
unfolding plan jobs
runnable_of mode t j reads p is =
    let a : AdmittedTask = is.value in
    let js = is.next_gives.value in
    let Runs : Plan → Type 0 = λ q. MayRun q in
    subst Runs (sym is.next_gives.next_gives.1)
    (may_run mode a js (fit_of mode t is.early a is.first_gives)
    (are_inputs is.next_gives.first_gives.value a.task js is.next_gives.first_gives.next_gives.1)
    (are_past is.next_gives.first_gives.value a.task js is.next_gives.first_gives.next_gives.1))

-- and a plan has the mode for which its task was admitted
mode_of : (mode : Mode) (t j : List ℕ) (reads : List FileRead) (p : Plan) → (plan mode t j).Gives reads p → p.mode ≡ mode
unfolding plan
mode_of mode t j reads p is = ap (λ (q : Plan). q.mode) is.next_gives.next_gives.1

-- the demonstration's jobs may run, too

made_is : {A : Type 0} (value a : A) (reads : List FileRead) → (made value).Gives reads a → a ≡ value
made_is value a reads is = is.1

pub task_is : (mode : Mode) (t : TaskOf) (i : Image) (reads : List FileRead) (a : AdmittedTask) → (admitted mode t i).Gives reads a → a.task ≡ t
unfolding admitted
task_is mode t i reads a is = ap (λ (x : AdmittedTask). x.task) is.next_gives.1.0

pub demo_fit : (reads : List FileRead) (a : AdmittedTask) → demo_admission.Gives reads a → IsFit Fast a
unfolding demo_admission
demo_fit reads a is =
    let same = made_is demo_task is.value is.early is.first_gives in
    let kept : KeepsLimits is.value = subst KeepsLimits (sym same) limits in
    fit_admitted Fast is.value is.next_gives.value is.next_gives.late a kept is.next_gives.next_gives

pub demo_task_is : (reads : List FileRead) (a : AdmittedTask) → demo_admission.Gives reads a → a.task ≡ demo_task
unfolding demo_admission
demo_task_is reads a is =
    task_is Fast is.value is.next_gives.value is.next_gives.late a is.next_gives.next_gives ∙ made_is demo_task is.value is.early is.first_gives

-- a plan of a task and jobs for which an admission and its jobs are known
pub demo_may_run : (seed : ℕ) (a : AdmittedTask) → IsFit Fast a → a.task ≡ demo_task
    → MayRun (record { mode = Fast; task = a.task; entry = a.entry; memory = a.memory; times = a.times; jobs = demo_jobs seed })
demo_may_run seed a fit same =
    let Takes : TaskOf → Type 0 = λ t. AreInputsOf t (demo_jobs seed) in
    may_run Fast a (demo_jobs seed) fit (subst Takes (sym same) (fits seed)) (none_past (length a.task.cuts + 1) (demo_jobs seed) (past seed))

demo_runnable : (seed : ℕ) (reads : List FileRead) (p : Plan) → (demo seed).Gives reads p → MayRun p
unfolding demo
demo_runnable seed reads p is =
    let a : AdmittedTask = is.value in
    let js = is.next_gives.value in
    let jobs_same = made_is (demo_jobs seed) js is.next_gives.early is.next_gives.first_gives in
    let Runs : Plan → Type 0 = λ q. MayRun q in
    let of_jobs : JobsOf → Plan = λ x. record { mode = Fast; task = a.task; entry = a.entry; memory = a.memory; times = a.times; jobs = x } in
    subst Runs (sym (is.next_gives.next_gives.1 ∙ ap of_jobs jobs_same)) (demo_may_run seed a (demo_fit is.early a is.first_gives) (demo_task_is is.early a is.first_gives))

demo_mode : (seed : ℕ) (reads : List FileRead) (p : Plan) → (demo seed).Gives reads p → p.mode ≡ Fast
unfolding demo
demo_mode seed reads p is = ap (λ (q : Plan). q.mode) is.next_gives.next_gives.1

-- what a call prints: a log, or the line of a status
record LogOf (words : List (List ℕ)) (reads : List FileRead) (lines : List (List ℕ)) : Type 0 where
  pub task_name : List ℕ
  pub jobs_name : List ℕ
  pub mode : Mode
  pub predictor : PredictorKind
  pub command : IsCommand words (command_in mode task_name jobs_name predictor)
  pub value : Plan
  pub gives : (plan mode task_name jobs_name).Gives reads value
  pub log : IsLog predictor value lines

-- or the lines of what was found for a task
record TellingOf {A : Type 0} (command_of : List ℕ → Asked) (stage_of : List ℕ → Stage A) (Prints : A → List (List ℕ) → Type 0) (words : List (List ℕ))
    (reads : List FileRead) (lines : List (List ℕ)) : Type 0 where
  pub task_name : List ℕ
  pub command : IsCommand words (command_of task_name)
  pub value : A
  pub gives : (stage_of task_name).Gives reads value
  pub prints : Prints value lines

abbrev CheckOf : List (List ℕ) → List FileRead → List (List ℕ) → Type 0
CheckOf = TellingOf command.check (admission Fast) IsCheck

abbrev ListOf : List (List ℕ) → List FileRead → List (List ℕ) → Type 0
ListOf = TellingOf command.list listing IsListing

abbrev OneLine : List (List ℕ) → Type 0
OneLine lines = (status : Status) × (lines ≡ line_of status ∷ [])

-- or those of the demonstration
record DemoOf (words : List (List ℕ)) (reads : List FileRead) (lines : List (List ℕ)) : Type 0 where
  pub seed : ℕ
  pub command : IsCommand words (command.demo seed)
  pub value : Plan
  pub gives : (demo seed).Gives reads value
  pub sums : IsDemo seed value lines

-- the one of them that is printed
abbrev Printed : List (List ℕ) → List FileRead → List (List ℕ) → Type 0
Printed words reads lines =
    LogOf words reads lines
    ⊎ (DemoOf words reads lines ⊎ (CheckOf words reads lines ⊎ (ListOf words reads lines ⊎ OneLine lines)))

printed : (words : List (List ℕ)) (c : Asked) (reads : List FileRead) (s : Status) (lines : List (List ℕ)) → IsCommand words c → Asks c reads s lines
    → Printed words reads lines
unfolding Asks
printed words (command.simple t j) reads s lines has (inl done) =
    inl (record {
      task_name = t;
      jobs_name = j;
      mode = Simple;
      predictor = Static;
      command = has;
      value = done.0.value;
      gives = done.0.gives;
      log = done.0.prints;
    })
printed words (command.simple t j) reads s lines has (inr stops) = inr (inr (inr (inr (s, stops.1))))
printed words (command.check t) reads s lines has (inl done) =
    inr (inr (inl (record { task_name = t; command = has; value = done.0.value; gives = done.0.gives; prints = done.0.prints })))
printed words (command.check t) reads s lines has (inr stops) = inr (inr (inr (inr (s, stops.1))))
printed words (command.run t j p) reads s lines has (inl done) =
    inl (record { task_name = t; jobs_name = j; mode = Fast; predictor = p; command = has; value = done.0.value; gives = done.0.gives; log = done.0.prints })
printed words (command.run t j p) reads s lines has (inr stops) = inr (inr (inr (inr (s, stops.1))))
printed words (command.list t) reads s lines has (inl done) =
    inr (inr (inr (inl (record { task_name = t; command = has; value = done.0.value; gives = done.0.gives; prints = done.0.prints }))))
printed words (command.list t) reads s lines has (inr stops) = inr (inr (inr (inr (s, stops.1))))
printed words (command.demo seed) reads s lines has (inl done) =
    inr (inl (record { seed = seed; command = has; value = done.0.value; gives = done.0.gives; sums = done.0.prints }))
printed words (command.demo seed) reads s lines has (inr stops) = inr (inr (inr (inr (s, stops.1))))

all_printed : (words : List (List ℕ)) (reads : List FileRead) (s : Status) (lines : List (List ℕ)) → WordsAsk words reads s lines
    → Printed words reads lines
all_printed words reads s lines (inl usage) = inr (inr (inr (inr (Usage, usage.lines_are))))
all_printed words reads s lines (inr (inl out)) = inr (inr (inr (inr (Memory, out.lines_are))))
all_printed words reads s lines (inr (inr is)) = printed words is.asked reads s lines is.command is.asks

-- whatever names files have
abbrev Any : Role → List ℕ → Type 0
Any role name = ⊤

-- a text that is put, whole or in part
logs_in_time : (words : List (List ℕ)) (contents : Contents) (f0 f1 : Seen) (reads : List FileRead) (lines : List (List ℕ)) (text rest : List ℕ) → LogOf words reads lines
    → WereRead f0 reads f1 → f0.contents ≡ Some contents → concat lines ≡ text ++ rest → LogsInTime words (told contents) text
logs_in_time words contents f0 f1 reads lines text rest of were tells is =
    let given = (proper_plan Any of.mode of.task_name of.jobs_name tt (λ n. tt) tt).gives reads of.value of.gives in
    let mode_is = mode_of of.mode of.task_name of.jobs_name reads of.value of.gives in
    let setting = setting_of of.predictor of.value in
    let Leave : Mode → Type 0 = λ m. AllLeaveOnlyAtMiss m setting (input_of of.value.jobs) of.log.jobs in
    record {
      task_name = of.task_name;
      jobs_name = of.jobs_name;
      mode = of.mode;
      predictor = of.predictor;
      command = of.command;
      reads = reads;
      finds = found_given Any 0 3 (told contents) contents f0 f1 reads (λ role below. refl) given were tells;
      value = of.value;
      gives = of.gives;
      jobs = of.log.jobs;
      are_run = of.log.are_run;
      some = omega (arith, of.log.all);
      in_time = all_in_time of.predictor of.value of.log.jobs (runnable_of of.mode of.task_name of.jobs_name reads of.value of.gives) of.log.are_run;
      leave = subst Leave mode_is (all_leave of.value.mode setting (input_of of.value.jobs) of.log.jobs of.log.are_run);
      rest = rest;
      text_is = ap (λ m. concat (log_lines m of.value.task.show of.log.jobs)) (sym mode_is) ∙ ap concat (sym of.log.lines_are) ∙ is;
    }

sums_in_time : (words : List (List ℕ)) (contents : Contents) (f0 f1 : Seen) (reads : List FileRead) (lines : List (List ℕ)) (text rest : List ℕ) → DemoOf words reads lines
    → WereRead f0 reads f1 → f0.contents ≡ Some contents → concat lines ≡ text ++ rest → SumsInTime words (told contents) text
sums_in_time words contents f0 f1 reads lines text rest of were tells is =
    let given = (proper_demo Any of.seed (λ n. tt)).gives reads of.value of.gives in
    let may = demo_runnable of.seed reads of.value of.gives in
    let setting = setting_of Static of.value in
    let in_time = all_in_time Static of.value of.sums.jobs may of.sums.are_run in
    let Leave : Mode → Type 0 = λ m. AllLeaveOnlyAtMiss m setting (input_of of.value.jobs) of.sums.jobs in
    record {
      seed = of.seed;
      command = of.command;
      reads = reads;
      finds = found_given Any 0 3 (told contents) contents f0 f1 reads (λ role below. refl) given were tells;
      value = of.value;
      gives = of.gives;
      jobs = of.sums.jobs;
      are_run = of.sums.are_run;
      all = of.sums.all;
      in_time = in_time;
      latest = latest_in_time of.value.task.deadline_ps of.sums.jobs in_time;
      leave = subst Leave (demo_mode of.seed reads of.value of.gives)
          (all_leave of.value.mode setting (input_of of.value.jobs) of.sums.jobs of.sums.are_run);
      rest = rest;
      text_is = ap concat (sym of.sums.lines_are) ∙ is;
    }

tells_part : {A : Type 0} (command_of : List ℕ → Asked) (stage_of : List ℕ → Stage A) (lines_of : A → List (List ℕ)) (words : List (List ℕ)) (contents : Contents) (f0 f1 : Seen)
    (reads : List FileRead) (lines : List (List ℕ)) (text rest : List ℕ) → ((name : List ℕ) → IsProper Any 0 3 (stage_of name))
    → TellingOf command_of stage_of (λ a ls. ls ≡ lines_of a) words reads lines → WereRead f0 reads f1 → f0.contents ≡ Some contents → concat lines ≡ text ++ rest
    → TellsOf command_of stage_of lines_of words (told contents) text
tells_part command_of stage_of lines_of words contents f0 f1 reads lines text rest proper of were tells is = record {
  task_name = of.task_name;
  command = of.command;
  reads = reads;
  finds = found_given Any 0 3 (told contents) contents f0 f1 reads (λ role below. refl) ((proper of.task_name).gives reads of.value of.gives) were tells;
  value = of.value;
  gives = of.gives;
  rest = rest;
  text_is = ap concat (sym of.prints) ∙ is;
}

tells_times : (words : List (List ℕ)) (contents : Contents) (f0 f1 : Seen) (reads : List FileRead) (lines : List (List ℕ)) (text rest : List ℕ) → CheckOf words reads lines
    → WereRead f0 reads f1 → f0.contents ≡ Some contents → concat lines ≡ text ++ rest → TellsTimes words (told contents) text
tells_times words contents f0 f1 reads lines text rest =
    tells_part command.check (admission Fast) (λ a. check_lines a.task a.times) words contents f0 f1 reads lines text rest (λ name. proper_check Any name tt (λ n. tt))

lists_code : (words : List (List ℕ)) (contents : Contents) (f0 f1 : Seen) (reads : List FileRead) (lines : List (List ℕ)) (text rest : List ℕ) → ListOf words reads lines
    → WereRead f0 reads f1 → f0.contents ≡ Some contents → concat lines ≡ text ++ rest → ListsCode words (told contents) text
lists_code words contents f0 f1 reads lines text rest =
    tells_part command.list listing list_lines words contents f0 f1 reads lines text rest (λ name. proper_listing Any name tt (λ n. tt))

line_text : (lines : List (List ℕ)) (s : Status) → lines ≡ line_of s ∷ [] → concat lines ≡ line_of s
line_text lines s e = ap concat e ∙ append-nil (line_of s)

pub keeps_deadline : (words : List (List ℕ)) (f0 f1 : Seen) (s0 s1 : Taken) (status : Status) → Does (WordsAsk words) f0 f1 s0 s1 status → KeepsDeadline words f0 s0 s1
unfolding KeepsDeadline
keeps_deadline words f0 f1 s0 s1 status d contents tells = by (all_printed words d.reads d.asked d.lines d.asks) d.ends
  where
    Logged : Type 0
    Logged = (text : List ℕ) × Appended s0 s1 text × PrintsPart words (told contents) text

    by : Printed words d.reads d.lines → EndsByOrMemory s0 s1 d.asked d.lines status → Logged
    by (inl log) (inl (inl (is, puts))) =
        (concat d.lines, puts.appends, inr (inl (logs_in_time words contents f0 f1 d.reads d.lines (concat d.lines) [] log d.were_read tells (sym (append-nil (concat d.lines))))))
    by (inl log) (inl (inr (is, some))) =
        let part = some_prefix some in
        (part.kept, part.taken, inr (inl (logs_in_time words contents f0 f1 d.reads d.lines part.kept part.lost log d.were_read tells part.parts)))
    by (inr (inl sums)) (inl (inl (is, puts))) =
        (concat d.lines, puts.appends, inr (inr (inl (sums_in_time words contents f0 f1 d.reads d.lines (concat d.lines) [] sums d.were_read tells (sym (append-nil (concat d.lines)))))))
    by (inr (inl sums)) (inl (inr (is, some))) =
        let part = some_prefix some in
        (part.kept, part.taken, inr (inr (inl (sums_in_time words contents f0 f1 d.reads d.lines part.kept part.lost sums d.were_read tells part.parts))))
    by (inr (inr (inl check))) (inl (inl (is, puts))) =
        (concat d.lines, puts.appends, inr (inr (inr (inl (tells_times words contents f0 f1 d.reads d.lines (concat d.lines) [] check d.were_read tells (sym (append-nil (concat d.lines))))))))
    by (inr (inr (inl check))) (inl (inr (is, some))) =
        let part = some_prefix some in
        (part.kept, part.taken, inr (inr (inr (inl (tells_times words contents f0 f1 d.reads d.lines part.kept part.lost check d.were_read tells part.parts)))))
    by (inr (inr (inr (inl list)))) (inl (inl (is, puts))) =
        (concat d.lines, puts.appends, inr (inr (inr (inr (lists_code words contents f0 f1 d.reads d.lines (concat d.lines) [] list d.were_read tells (sym (append-nil (concat d.lines))))))))
    by (inr (inr (inr (inl list)))) (inl (inr (is, some))) =
        let part = some_prefix some in
        (part.kept, part.taken, inr (inr (inr (inr (lists_code words contents f0 f1 d.reads d.lines part.kept part.lost list d.were_read tells part.parts)))))
    by (inr (inr (inr (inr (s, e))))) (inl (inl (is, puts))) =
        (concat d.lines, puts.appends, inl (record { status = s; rest = []; text_is = sym (line_text d.lines s e) ∙ sym (append-nil (concat d.lines)) }))
    by (inr (inr (inr (inr (s, e))))) (inl (inr (is, some))) =
        let part = some_prefix some in
        (part.kept, part.taken, inl (record { status = s; rest = part.lost; text_is = sym (line_text d.lines s e) ∙ part.parts }))
    by q (inr (made, inl (is, puts))) =
        (concat (line_of Memory ∷ []), puts.appends, inl (record { status = Memory; rest = []; text_is = sym (append-nil (line_of Memory)) ∙ sym (append-nil (concat (line_of Memory ∷ []))) }))
    by q (inr (made, inr (is, some))) =
        let part = some_prefix some in
        (part.kept, part.taken, inl (record { status = Memory; rest = part.lost; text_is = sym (append-nil (line_of Memory)) ∙ part.parts }))
