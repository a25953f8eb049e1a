-- What each stage reads: files in the order of their roles, each under the name that the command has for it, and no more behind
-- the first read that fails.
use Rattle.std.proofs.Common.{◌≡◌, ◌∙◌, refl, sym, ap, subst, ℕ, suc, ◌≤◌, Bool, true, false, List, [], ◌∷◌, ◌++◌, Result, Ok, Err, arith, inl, inr}
use Rattle.std.specs.Prelude.{◌⊎◌, ⊤, IfSome}
use Rattle.visa_io.specs.declared.files.FileFault.{FileFault}
use Rattle.mips_elf.specs.declared.error.ElfError.{ElfError}
use Rattle.mips_elf.specs.declared.error.ElfError.TheVariants as elf
use Rattle.task_text.specs.declared.fault.JobsFault.{JobsFault}
use Rattle.task_text.specs.declared.fault.JobsFault.TheVariants as jobs_fault
use Rattle.task_text.specs.declared.fault.TaskFault.{TaskFault}
use Rattle.task_text.specs.declared.fault.TaskFault.TheVariants as task_fault
use Rattle.task_text.specs.declared.task.Source.{Source}
use Rattle.task_text.specs.declared.task.Source.TheVariants.{Name, Words}
use Rattle.task_text.specs.declared.task.Task.{Task as TaskOf}
use Rattle.visa_io.specs.declared.records.Image.{Image}
use Rattle.mips_elf.specs.Images.{IsAnswer}
use Rattle.admission.specs.declared.mode.Mode.{Mode}
use Rattle.admission.specs.declared.mode.Mode.TheVariants.{Fast, Simple}
use Rattle.admission.specs.declared.refusal.Refusal.{Refusal}
use Rattle.admission.specs.declared.refusal.Refusal.TheVariants as refusal
use Rattle.task_layout.specs.declared.fault.LayoutFault.{LayoutFault}
use Rattle.task_layout.specs.declared.fault.LayoutFault.TheVariants as layout
use Rattle.command_line.specs.Commands.{Asked}
use Rattle.command_line.specs.Commands as command
use Rattle.visa_cli.specs.Admission.{AdmitsOn}
use Rattle.visa_cli.specs.Clauses.{name_in}
use Rattle.visa_cli.specs.Product.{Asks}
use Rattle.visa_cli.specs.Reads.{FileRead}
use Rattle.demonstration.specs.Demonstration.{demo_jobs, demo_task}
use Rattle.visa_cli.specs.Stage.{Stage, chained, still}
use Rattle.visa_cli.specs.Stages.{IsMade, JobsAnswer, LayoutAnswer, PlanAnswer, TaskAnswer, WordsAnswer, admission, admitted, demo, demo_admission, elf_status, file, file_status, image_from, jobs, jobs_status, laid_out, layout_status, listing, made, plan, read_of, refusal_status, task, task_status}
use Rattle.visa_cli.specs.Status.{line_of}
use Rattle.visa_cli.specs.declared.status.Role.{Role}
use Rattle.visa_cli.specs.declared.status.Role.TheVariants.{Task, Image as ImageRole, Jobs}
use Rattle.visa_cli.specs.declared.status.Status.{Status}
use Rattle.visa_cli.specs.declared.status.Status.TheVariants.{Done, Usage, ReadFault, TaskText, ImageRefused, Refused, JobsText, WriteFault, Memory, Long}

-- the order in which roles are read
abbrev pub rank : Role → ℕ
rank Task = 0
rank ImageRole = 1
rank Jobs = 2

abbrev pub GaveBytes : Result (List ℕ) FileFault → Type 0
GaveBytes (Ok bytes) = ⊤
GaveBytes (Err fault) = ⊥

-- reads, newest first, all of which gave bytes, for roles from one rank on and below another, each under a name that it may have
abbrev pub AreGiven : (Role → List ℕ → Type 0) → ℕ → ℕ → List FileRead → Type 0
AreGiven Named lo hi [] = lo ≤ hi
AreGiven Named lo hi (r ∷ older) = GaveBytes r.answer × Named r.role r.name × (suc (rank r.role) ≤ hi) × AreGiven Named lo (rank r.role) older

-- a status that is neither that of a file, nor of a call without a command, nor of a sink
abbrev pub is_of_stage : Status → Bool
is_of_stage Done = false
is_of_stage Usage = false
is_of_stage (ReadFault role) = false
is_of_stage (TaskText at kind) = true
is_of_stage (ImageRefused kind) = true
is_of_stage (Refused refusal) = true
is_of_stage (JobsText at) = true
is_of_stage WriteFault = false
is_of_stage Memory = true
is_of_stage (Long role) = false

-- the last of the reads gave no bytes
pub record StopsReading (Named : Role → List ℕ → Type 0) (lo hi : ℕ) (reads : List FileRead) (status : Status) : Type 0 where
  pub role : Role
  pub name : List ℕ
  pub fault : FileFault
  pub older : List FileRead
  pub reads_are : reads ≡ read_of role name (Err fault) ∷ older
  pub status_is : status ≡ file_status role fault
  pub named : Named role name
  pub below : suc (rank role) ≤ hi
  pub given : AreGiven Named lo (rank role) older

pub record StopsAfter (Named : Role → List ℕ → Type 0) (lo hi : ℕ) (reads : List FileRead) (status : Status) : Type 0 where
  pub given : AreGiven Named lo hi reads
  pub of_stage : is_of_stage status ≡ true

abbrev pub AreStopped : (Role → List ℕ → Type 0) → ℕ → ℕ → List FileRead → Status → Type 0
AreStopped Named lo hi reads status = StopsAfter Named lo hi reads status ⊎ StopsReading Named lo hi reads status

pub record IsProper (Named : Role → List ℕ → Type 0) (lo hi : ℕ) {A : Type 0} (stage : Stage A) : Type 0 where
  pub gives : (reads : List FileRead) (a : A) → stage.Gives reads a → AreGiven Named lo hi reads
  pub stops : (reads : List FileRead) (status : Status) → stage.Stops reads status → AreStopped Named lo hi reads status

wider : (Named : Role → List ℕ → Type 0) (lo mid hi : ℕ) (reads : List FileRead) → mid ≤ hi → AreGiven Named lo mid reads → AreGiven Named lo hi reads
wider Named lo mid hi [] le given = omega (arith, given, le)
wider Named lo mid hi (r ∷ older) le given = (given.0, given.1, omega (arith, given.2, le), given.3)

given_behind : (Named : Role → List ℕ → Type 0) (lo mid hi : ℕ) (early late : List FileRead) → AreGiven Named lo mid early → AreGiven Named mid hi late
    → AreGiven Named lo hi (late ++ early)
given_behind Named lo mid hi early [] first second = wider Named lo mid hi early second first
given_behind Named lo mid hi early (r ∷ late) first second =
    (second.0, second.1, second.2, given_behind Named lo mid (rank r.role) early late first second.3)

wider_stopped : (Named : Role → List ℕ → Type 0) (lo mid hi : ℕ) (reads : List FileRead) (status : Status) → mid ≤ hi
    → AreStopped Named lo mid reads status → AreStopped Named lo hi reads status
wider_stopped Named lo mid hi reads status le (inl after) = inl (record { given = wider Named lo mid hi reads le after.given; of_stage = after.of_stage })
wider_stopped Named lo mid hi reads status le (inr reading) = inr (record {
  role = reading.role;
  name = reading.name;
  fault = reading.fault;
  older = reading.older;
  reads_are = reading.reads_are;
  status_is = reading.status_is;
  named = reading.named;
  below = omega (arith, reading.below, le);
  given = reading.given;
})

stopped_behind : (Named : Role → List ℕ → Type 0) (lo mid hi : ℕ) (early late : List FileRead) (status : Status) → AreGiven Named lo mid early
    → AreStopped Named mid hi late status → AreStopped Named lo hi (late ++ early) status
stopped_behind Named lo mid hi early late status first (inl after) =
    inl (record { given = given_behind Named lo mid hi early late first after.given; of_stage = after.of_stage })
stopped_behind Named lo mid hi early late status first (inr reading) = inr (record {
  role = reading.role;
  name = reading.name;
  fault = reading.fault;
  older = reading.older ++ early;
  reads_are = ap (λ xs. xs ++ early) reading.reads_are;
  status_is = reading.status_is;
  named = reading.named;
  below = reading.below;
  given = given_behind Named lo mid (rank reading.role) early reading.older first reading.given;
})

proper_still : (Named : Role → List ℕ → Type 0) (lo hi : ℕ) {A E : Type 0} (Answers : Result A E → Type 0) (status_of : E → Status) → lo ≤ hi
    → ((fault : E) → is_of_stage (status_of fault) ≡ true) → IsProper Named lo hi (still Answers status_of)
proper_still Named lo hi Answers status_of le plain =
    let At : List FileRead → Type 0 = λ reads. AreGiven Named lo hi reads in
    record {
      gives = λ reads a is. subst At (sym is.0) le;
      stops = λ reads status is. inl (record { given = subst At (sym is.0) le; of_stage = ap is_of_stage is.1.2 ∙ plain is.1.0 });
    }

proper_file : (Named : Role → List ℕ → Type 0) (lo hi : ℕ) (role : Role) (name : List ℕ) → Named role name → lo ≤ rank role → suc (rank role) ≤ hi
    → IsProper Named lo hi (file role name)
unfolding file
proper_file Named lo hi role name named low high =
    let At : List FileRead → Type 0 = λ reads. AreGiven Named lo hi reads in
    record {
      gives = λ reads bytes is. subst At (sym is) (tt, named, high, low);
      stops = λ reads status is. inr (record {
        role = role;
        name = name;
        fault = is.0;
        older = [];
        reads_are = is.1;
        status_is = is.2;
        named = named;
        below = high;
        given = low;
      });
    }

proper_chained : (Named : Role → List ℕ → Type 0) (lo mid hi : ℕ) {A B : Type 0} (first : Stage A) (next : A → Stage B) → mid ≤ hi
    → IsProper Named lo mid first → ((a : A) → IsProper Named mid hi (next a)) → IsProper Named lo hi (chained first next)
proper_chained Named lo mid hi first next le one two = record {
  gives = λ reads b both.
      let At : List FileRead → Type 0 = λ xs. AreGiven Named lo hi xs in
      subst At (sym both.reads_are)
      (given_behind Named lo mid hi both.early both.late (one.gives both.early both.value both.first_gives) ((two both.value).gives both.late b both.next_gives));
  stops = λ reads status either. elim either [
    | inl stops ↦ wider_stopped Named lo mid hi reads status le (one.stops reads status stops)
    | inr later ↦
        let At : List FileRead → Type 0 = λ xs. AreStopped Named lo hi xs status in
        subst At (sym later.reads_are)
        (stopped_behind Named lo mid hi later.early later.late status (one.gives later.early later.value later.first_gives)
        ((two later.value).stops later.late status later.next_stops))
  ];
}

-- the statuses of the stages' faults

of_task : (fault : TaskFault) → is_of_stage (task_status fault) ≡ true
of_task (task_fault.Line at kind) = refl
of_task task_fault.Memory = refl

of_jobs : (fault : JobsFault) → is_of_stage (jobs_status fault) ≡ true
of_jobs (jobs_fault.Line at) = refl
of_jobs jobs_fault.Memory = refl

of_elf : (fault : ElfError) → is_of_stage (elf_status fault) ≡ true
of_elf elf.NotElf = refl
of_elf (elf.Truncated offset) = refl
of_elf elf.WrongClass = refl
of_elf elf.WrongMachine = refl
of_elf elf.WrongType = refl
of_elf elf.WrongArch = refl
of_elf elf.EntrySize = refl
of_elf elf.TooMany = refl
of_elf elf.Dynamic = refl
of_elf (elf.SegmentSize segment) = refl
of_elf (elf.Overlap at) = refl
of_elf elf.TooBig = refl
of_elf elf.Memory = refl

of_layout : (fault : LayoutFault) → is_of_stage (layout_status fault) ≡ true
of_layout layout.OrderDiffers = refl
of_layout (layout.Overlap at) = refl
of_layout layout.TooBig = refl
of_layout layout.CodeBig = refl
of_layout (layout.Uncovered at) = refl
of_layout layout.Memory = refl

of_refusal : (fault : Refusal) → is_of_stage (refusal_status fault) ≡ true
of_refusal (refusal.Flow fault) = refl
of_refusal (refusal.Region fault) = refl
of_refusal (refusal.Fact fault) = refl
of_refusal (refusal.Loop fault) = refl
of_refusal (refusal.Cut fault) = refl
of_refusal (refusal.Exceeds needed deadline) = refl
of_refusal refusal.Memory = refl

-- the stages

proper_task : (Named : Role → List ℕ → Type 0) (name : List ℕ) → Named Task name → IsProper Named 0 1 (task name)
unfolding task
proper_task Named name named =
    proper_chained Named 0 1 1 (file Task name) (λ bytes. still (TaskAnswer bytes) task_status) (omega arith)
    (proper_file Named 0 1 Task name named (omega arith) (omega arith))
    (λ bytes. proper_still Named 1 1 (TaskAnswer bytes) task_status (omega arith) of_task)

proper_image : (Named : Role → List ℕ → Type 0) (t : TaskOf) (source : Source) → ((name : List ℕ) → Named ImageRole name) → IsProper Named 1 2 (image_from t source)
unfolding image_from
proper_image Named t (Words code) named = proper_still Named 1 2 (WordsAnswer t) (λ fault. Memory) (omega arith) (λ fault. refl)
proper_image Named t (Name name) named =
    proper_chained Named 1 2 2 (file ImageRole name) (λ bytes. still (IsAnswer bytes) elf_status) (omega arith)
    (proper_file Named 1 2 ImageRole name (named name) (omega arith) (omega arith))
    (λ bytes. proper_still Named 2 2 (IsAnswer bytes) elf_status (omega arith) of_elf)

proper_admitted : (Named : Role → List ℕ → Type 0) (mode : Mode) (t : TaskOf) (i : Image) → IsProper Named 2 2 (admitted mode t i)
unfolding admitted laid_out
proper_admitted Named mode t i =
    proper_chained Named 2 2 2 (still (LayoutAnswer t i) layout_status) (λ m. still (AdmitsOn mode t i m) refusal_status) (omega arith)
    (proper_still Named 2 2 (LayoutAnswer t i) layout_status (omega arith) of_layout)
    (λ m. proper_still Named 2 2 (AdmitsOn mode t i m) refusal_status (omega arith) of_refusal)

proper_admission : (Named : Role → List ℕ → Type 0) (mode : Mode) (name : List ℕ) → Named Task name → ((n : List ℕ) → Named ImageRole n)
    → IsProper Named 0 2 (admission mode name)
unfolding admission
proper_admission Named mode name named images =
    proper_chained Named 0 1 2 (task name) (λ t. chained (image_from t t.image) (admitted mode t)) (omega arith) (proper_task Named name named)
    (λ t. proper_chained Named 1 2 2 (image_from t t.image) (admitted mode t) (omega arith) (proper_image Named t t.image images) (λ i. proper_admitted Named mode t i))

-- a stage that reads for fewer roles
proper_wider : (Named : Role → List ℕ → Type 0) (lo mid hi : ℕ) {A : Type 0} (stage : Stage A) → mid ≤ hi → IsProper Named lo mid stage → IsProper Named lo hi stage
proper_wider Named lo mid hi stage le proper = record {
  gives = λ reads a is. wider Named lo mid hi reads le (proper.gives reads a is);
  stops = λ reads status is. wider_stopped Named lo mid hi reads status le (proper.stops reads status is);
}

pub proper_check : (Named : Role → List ℕ → Type 0) (name : List ℕ) → Named Task name → ((n : List ℕ) → Named ImageRole n) → IsProper Named 0 3 (admission Fast name)
proper_check Named name named images = proper_wider Named 0 2 3 (admission Fast name) (omega arith) (proper_admission Named Fast name named images)

pub proper_listing : (Named : Role → List ℕ → Type 0) (name : List ℕ) → Named Task name → ((n : List ℕ) → Named ImageRole n) → IsProper Named 0 3 (listing name)
unfolding listing
proper_listing Named name named images =
    proper_chained Named 0 1 3 (task name) (λ t. image_from t t.image) (omega arith) (proper_task Named name named)
    (λ t. proper_wider Named 1 2 3 (image_from t t.image) (omega arith) (proper_image Named t t.image images))

proper_jobs : (Named : Role → List ℕ → Type 0) (name : List ℕ) (t : TaskOf) → Named Jobs name → IsProper Named 2 3 (jobs name t)
unfolding jobs
proper_jobs Named name t named =
    proper_chained Named 2 3 3 (file Jobs name) (λ bytes. still (JobsAnswer bytes t) jobs_status) (omega arith)
    (proper_file Named 2 3 Jobs name named (omega arith) (omega arith))
    (λ bytes. proper_still Named 3 3 (JobsAnswer bytes t) jobs_status (omega arith) of_jobs)

pub proper_plan : (Named : Role → List ℕ → Type 0) (mode : Mode) (task_name jobs_name : List ℕ) → Named Task task_name → ((n : List ℕ) → Named ImageRole n)
    → Named Jobs jobs_name → IsProper Named 0 3 (plan mode task_name jobs_name)
unfolding plan
proper_plan Named mode task_name jobs_name named images jobs_named =
    proper_chained Named 0 2 3 (admission mode task_name) (λ a. chained (jobs jobs_name a.task) (λ js. still (PlanAnswer mode a js) (λ none. Memory))) (omega arith)
    (proper_admission Named mode task_name named images)
    (λ a. proper_chained Named 2 3 3 (jobs jobs_name a.task) (λ js. still (PlanAnswer mode a js) (λ none. Memory)) (omega arith)
    (proper_jobs Named jobs_name a.task jobs_named) (λ js. proper_still Named 3 3 (PlanAnswer mode a js) (λ none. Memory) (omega arith) (λ none. refl)))

proper_made : (Named : Role → List ℕ → Type 0) (lo hi : ℕ) {A : Type 0} (value : A) → lo ≤ hi → IsProper Named lo hi (made value)
proper_made Named lo hi value le = proper_still Named lo hi (IsMade value) (λ fault. Memory) le (λ fault. refl)

proper_demo_admission : (Named : Role → List ℕ → Type 0) → ((n : List ℕ) → Named ImageRole n) → IsProper Named 0 2 demo_admission
unfolding demo_admission
proper_demo_admission Named images =
    proper_chained Named 0 1 2 (made demo_task) (λ t. chained (image_from t t.image) (admitted Fast t)) (omega arith)
    (proper_made Named 0 1 demo_task (omega arith))
    (λ t. proper_chained Named 1 2 2 (image_from t t.image) (admitted Fast t) (omega arith) (proper_image Named t t.image images) (λ i. proper_admitted Named Fast t i))

pub proper_demo : (Named : Role → List ℕ → Type 0) (seed : ℕ) → ((n : List ℕ) → Named ImageRole n) → IsProper Named 0 3 (demo seed)
unfolding demo
proper_demo Named seed images =
    proper_chained Named 0 2 3 demo_admission (λ a. chained (made (demo_jobs seed)) (λ js. still (PlanAnswer Fast a js) (λ none. Memory))) (omega arith)
    (proper_demo_admission Named images)
    (λ a. proper_chained Named 2 3 3 (made (demo_jobs seed)) (λ js. still (PlanAnswer Fast a js) (λ none. Memory)) (omega arith)
    (proper_made Named 2 3 (demo_jobs seed) (omega arith)) (λ js. proper_still Named 3 3 (PlanAnswer Fast a js) (λ none. Memory) (omega arith) (λ none. refl)))

-- the names that a command has for its files
abbrev pub NamedIn : Asked → Role → List ℕ → Type 0
NamedIn asked role name = IfSome (name_in asked role) (λ given. given ≡ name)

-- what a command asks for, by its reads: all gave bytes and it is done, or they stop with a status
pub record AsksDone (asked : Asked) (reads : List FileRead) (status : Status) : Type 0 where
  pub given : AreGiven (NamedIn asked) 0 3 reads
  pub done : status ≡ Done

pub record AsksLine (asked : Asked) (reads : List FileRead) (status : Status) (lines : List (List ℕ)) : Type 0 where
  pub stopped : AreStopped (NamedIn asked) 0 3 reads status
  pub lines_are : lines ≡ line_of status ∷ []

shaped : (asked : Asked) {A : Type 0} (stage : Stage A) (Prints : A → List (List ℕ) → Type 0) (reads : List FileRead) (status : Status) (lines : List (List ℕ))
    → IsProper (NamedIn asked) 0 3 stage → Rattle.visa_cli.specs.Product.Ends stage Prints reads status lines
    → AsksDone asked reads status ⊎ AsksLine asked reads status lines
shaped asked stage Prints reads status lines proper (inl done) = inl (record { given = proper.gives reads done.0.value done.0.gives; done = done.1 })
shaped asked stage Prints reads status lines proper (inr stops) = inr (record { stopped = proper.stops reads status stops.0; lines_are = stops.1 })

pub shape_of : (asked : Asked) (reads : List FileRead) (status : Status) (lines : List (List ℕ)) → Asks asked reads status lines
    → AsksDone asked reads status ⊎ AsksLine asked reads status lines
unfolding Asks
shape_of (command.simple t j) reads status lines asks =
    shaped (command.simple t j) (plan Simple t j) _ reads status lines (proper_plan (NamedIn (command.simple t j)) Simple t j refl (λ n. tt) refl) asks
shape_of (command.check t) reads status lines asks =
    shaped (command.check t) (admission Fast t) _ reads status lines (proper_check (NamedIn (command.check t)) t refl (λ n. tt)) asks
shape_of (command.run t j p) reads status lines asks =
    shaped (command.run t j p) (plan Fast t j) _ reads status lines (proper_plan (NamedIn (command.run t j p)) Fast t j refl (λ n. tt) refl) asks
shape_of (command.list t) reads status lines asks =
    shaped (command.list t) (listing t) _ reads status lines (proper_listing (NamedIn (command.list t)) t refl (λ n. tt)) asks
shape_of (command.demo seed) reads status lines asks =
    shaped (command.demo seed) (demo seed) _ reads status lines (proper_demo (NamedIn (command.demo seed)) seed (λ n. tt)) asks
