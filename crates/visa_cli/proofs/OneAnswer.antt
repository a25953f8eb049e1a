-- What is found settles what a call asks for: each stage gives one value, or stops with one status.
use Rattle.std.proofs.Common.{◌≡◌, ◌∙◌, refl, sym, ap, subst, ℕ, List, [], ◌∷◌, ◌++◌, length, Result, Ok, Err, arith, inl, inr}
use Rattle.std.specs.Prelude.{◌⊎◌, ◌≢◌}
use Rattle.std.specs.List.{AllByRecursion, concat}
use Rattle.std.proofs.lemmas.Option.{same_Some}
use Rattle.visa_io.specs.declared.files.FileFault.{FileFault}
use Rattle.visa_io.specs.declared.files.FileFault.TheVariants as file_fault
use Rattle.visa_io.specs.declared.records.Image.{Image}
use Rattle.mips_elf.specs.Images.{IsAnswer}
use Rattle.mips_elf.proofs.OneAnswer.{one_image, image_excludes, one_refusal as elf_refusal}
use Rattle.mips_ref.specs.Memory.{Flat}
use Rattle.task_text.specs.declared.task.Source.{Source}
use Rattle.task_text.specs.declared.task.Source.TheVariants.{Name, Words}
use Rattle.task_text.specs.declared.task.Task.{Task as TaskOf}
use Rattle.task_text.proofs.Unique.{one_task, one_jobs, task_refusal, task_or_refusal, jobs_refusal, jobs_or_refusal}
use Rattle.task_layout.specs.declared.fault.LayoutFault.{LayoutFault}
use Rattle.task_layout.proofs.Layouts.{one_layout, layout_excludes, one_refusal as layout_refusal}
use Rattle.command_line.specs.Commands.{Asked}
use Rattle.command_line.specs.Commands as command
use Rattle.command_line.specs.declared.forms.PredictorKind.TheVariants.{Static}
use Rattle.command_line.proofs.OneCommand.{one_command}
use Rattle.admission.specs.declared.mode.Mode.{Mode}
use Rattle.admission.specs.declared.mode.Mode.TheVariants.{Fast, Simple}
use Rattle.admission.specs.declared.refusal.Refusal.{Refusal}
use Rattle.visa_cli.specs.Admission.{AdmitsOn, admitted_task}
use Rattle.demonstration.specs.Demonstration.{demo_jobs, demo_task}
use Rattle.visa_cli.specs.Check.{IsCheck}
use Rattle.visa_cli.specs.Demo.{IsDemo}
use Rattle.visa_cli.specs.Listing.{IsListing}
use Rattle.visa_cli.specs.Product.{AnswersFound, Asks, Ends, Finds, Found, IsProduct, WordsAsk}
use Rattle.visa_cli.specs.Reads.{FileRead}
use Rattle.visa_cli.specs.Run.{IsLog}
use Rattle.visa_cli.specs.Stage.{Stage, StopsNext, chained, still}
use Rattle.visa_cli.specs.Stages.{IsMade, JobsAnswer, LayoutAnswer, PlanAnswer, TaskAnswer, WordsAnswer, admission, admitted, demo, demo_admission, elf_status, file, file_status, image_from, jobs, jobs_status, laid_out, layout_status, listing, made, plan, refusal_status, task, task_status}
use Rattle.visa_cli.specs.Status.{line_of}
use Rattle.visa_cli.specs.declared.admit.AdmittedTask.{AdmittedTask}
use Rattle.visa_cli.specs.declared.status.Role.{Role}
use Rattle.visa_cli.specs.declared.status.Role.TheVariants.{Task, Image as ImageRole, Jobs}
use Rattle.visa_cli.specs.declared.status.Status.{Status}
use Rattle.visa_cli.specs.declared.status.Status.TheVariants.{Memory}
use Rattle.admission.proofs.OneAdmission.{one_times, one_refusal}
use Rattle.visa_cli.proofs.PlanRuns.{one_demo, one_log}
use Rattle.visa_cli.proofs.Admissions.{times_exclude}

-- of two answers of a stage for what is found, both give one value or stop with one status, or one that stops found no memory
pub record IsSingle (found : Found) {A : Type 0} (stage : Stage A) : Type 0 where
  pub gives_one : (r s : List FileRead) (a b : A) → AllByRecursion (Finds found) r → AllByRecursion (Finds found) s → stage.Gives r a → stage.Gives s b → a ≡ b
  pub not_both : (r s : List FileRead) (a : A) (status : Status) → AllByRecursion (Finds found) r → AllByRecursion (Finds found) s → stage.Gives r a → stage.Stops s status → status ≡ Memory
  pub stops_one : (r s : List FileRead) (a b : Status) → AllByRecursion (Finds found) r → AllByRecursion (Finds found) s → stage.Stops r a → stage.Stops s b
      → a ≢ Memory → b ≢ Memory → a ≡ b

all_split : (P : FileRead → Type 0) (xs ys : List FileRead) → AllByRecursion P (xs ++ ys) → AllByRecursion P xs × AllByRecursion P ys
all_split P [] ys all = (tt, all)
all_split P (x ∷ xs) ys all = let rest = all_split P xs ys all.1 in ((all.0, rest.0), rest.1)

-- two faults that aren't want of memory have one status
abbrev HasOneFault : {A E : Type 0} → (Result A E → Type 0) → (E → Status) → Type 0
HasOneFault {A} {E} Answers status_of = (f e : E) → Answers (Err f) → Answers (Err e) → status_of f ≢ Memory → status_of e ≢ Memory → status_of f ≡ status_of e

single_still : (found : Found) {A E : Type 0} (Answers : Result A E → Type 0) (status_of : E → Status) → ((a b : A) → Answers (Ok a) → Answers (Ok b) → a ≡ b)
    → ((a : A) (fault : E) → Answers (Ok a) → Answers (Err fault) → status_of fault ≡ Memory) → HasOneFault Answers status_of → IsSingle found (still Answers status_of)
single_still found Answers status_of one excludes same = record {
  gives_one = λ r s a b fr fs x y. one a b x.1 y.1;
  not_both = λ r s a status fr fs x y. y.1.2 ∙ excludes a y.1.0 x.1 y.1.1;
  stops_one = λ r s a b fr fs x y m n. x.1.2 ∙ same x.1.0 y.1.0 x.1.1 y.1.1 (λ e. m (x.1.2 ∙ e)) (λ e. n (y.1.2 ∙ e)) ∙ sym y.1.2;
}

gave_one : (found : Found) (role : Role) (name b c : List ℕ) → AnswersFound found role name (Ok b) → AnswersFound found role name (Ok c) → b ≡ c
gave_one found role name b c x y = same_Some b c (sym x.0 ∙ y.0)

gave_not : (found : Found) (role : Role) (name b : List ℕ) (fault : FileFault) → AnswersFound found role name (Ok b) → AnswersFound found role name (Err fault)
    → file_status role fault ≡ Memory
gave_not found role name b file_fault.Failed x none = let no = sym x.0 ∙ none in cc
gave_not found role name b file_fault.Long x long =
    let same = same_Some b long.0 (sym x.0 ∙ long.1) in absurd (omega (arith, ap (λ (bytes : List ℕ). length bytes) same, x.1, long.2))
gave_not found role name b file_fault.Memory x want = refl

stopped_one : (found : Found) (role : Role) (name : List ℕ) (f e : FileFault) → AnswersFound found role name (Err f) → AnswersFound found role name (Err e)
    → file_status role f ≢ Memory → file_status role e ≢ Memory → file_status role f ≡ file_status role e
stopped_one found role name file_fault.Failed file_fault.Failed x y m n = refl
stopped_one found role name file_fault.Failed file_fault.Long x y m n = let no = sym x ∙ y.1 in cc
stopped_one found role name file_fault.Long file_fault.Failed x y m n = let no = sym x.1 ∙ y in cc
stopped_one found role name file_fault.Long file_fault.Long x y m n = refl
stopped_one found role name file_fault.Memory e x y m n = absurd (m refl)
stopped_one found role name f file_fault.Memory x y m n = absurd (n refl)

single_file : (found : Found) (role : Role) (name : List ℕ) → IsSingle found (file role name)
unfolding file
single_file found role name =
    let All : List FileRead → Type 0 = λ reads. AllByRecursion (Finds found) reads in
    record {
      gives_one = λ r s a b fr fs x y. gave_one found role name a b (subst All x fr).0 (subst All y fs).0;
      not_both = λ r s a status fr fs x y. y.2 ∙ gave_not found role name a y.0 (subst All x fr).0 (subst All y.1 fs).0;
      stops_one = λ r s a b fr fs x y m n.
          x.2 ∙ stopped_one found role name x.0 y.0 (subst All x.1 fr).0 (subst All y.1 fs).0 (λ e. m (x.2 ∙ e)) (λ e. n (y.2 ∙ e)) ∙ sym y.2;
    }

-- the second stage works on one value
next_stops : (found : Found) {A B : Type 0} (first : Stage A) (next : A → Stage B) → IsSingle found first → ((a : A) → IsSingle found (next a)) → (r s : List FileRead) (a b : Status)
    → AllByRecursion (Finds found) r → AllByRecursion (Finds found) s → (chained first next).Stops r a → (chained first next).Stops s b → a ≢ Memory → b ≢ Memory → a ≡ b
next_stops found {A} {B} first next one two r s a b fr fs x y m n = by x y
  where
    All : List FileRead → Type 0
    All reads = AllByRecursion (Finds found) reads

    by : first.Stops r a ⊎ StopsNext first next r a → first.Stops s b ⊎ StopsNext first next s b → a ≡ b
    by (inl f) (inl g) = one.stops_one r s a b fr fs f g m n
    by (inl f) (inr g) = absurd (m (one.not_both g.early r g.value a (all_split (Finds found) g.late g.early (subst All g.reads_are fs)).1 fr g.first_gives f))
    by (inr f) (inl g) = absurd (n (one.not_both f.early s f.value b (all_split (Finds found) f.late f.early (subst All f.reads_are fr)).1 fs f.first_gives g))
    by (inr f) (inr g) =
        let rf = all_split (Finds found) f.late f.early (subst All f.reads_are fr) in
        let rg = all_split (Finds found) g.late g.early (subst All g.reads_are fs) in
        let same = one.gives_one f.early g.early f.value g.value rf.1 rg.1 f.first_gives g.first_gives in
        let Stops : A → Type 0 = λ v. (next v).Stops g.late b in
        (two f.value).stops_one f.late g.late a b rf.0 rg.0 f.next_stops (subst Stops (sym same) g.next_stops) m n

single_chained : (found : Found) {A B : Type 0} (first : Stage A) (next : A → Stage B) → IsSingle found first → ((a : A) → IsSingle found (next a)) → IsSingle found (chained first next)
single_chained found {A} {B} first next one two =
    let All : List FileRead → Type 0 = λ reads. AllByRecursion (Finds found) reads in
    record {
      gives_one = λ r s a b fr fs x y.
          let rx = all_split (Finds found) x.late x.early (subst All x.reads_are fr) in
          let ry = all_split (Finds found) y.late y.early (subst All y.reads_are fs) in
          let same = one.gives_one x.early y.early x.value y.value rx.1 ry.1 x.first_gives y.first_gives in
          let Gives : A → Type 0 = λ v. (next v).Gives y.late b in
          (two x.value).gives_one x.late y.late a b rx.0 ry.0 x.next_gives (subst Gives (sym same) y.next_gives);
      not_both = λ r s a status fr fs x either.
          let rx = all_split (Finds found) x.late x.early (subst All x.reads_are fr) in
          elim either [
            | inl stops ↦ one.not_both x.early s x.value status rx.1 fs x.first_gives stops
            | inr y ↦
                let ry = all_split (Finds found) y.late y.early (subst All y.reads_are fs) in
                let same = one.gives_one x.early y.early x.value y.value rx.1 ry.1 x.first_gives y.first_gives in
                let Stops : A → Type 0 = λ v. (next v).Stops y.late status in
                (two x.value).not_both x.late y.late a status rx.0 ry.0 x.next_gives (subst Stops (sym same) y.next_stops)
          ];
      stops_one = next_stops found first next one two;
    }

-- the stages

-- the refusals

task_refused : (bytes : List ℕ) → HasOneFault (TaskAnswer bytes) task_status
task_refused bytes f e x y m n = ap task_status (task_refusal bytes f e x y (λ is. m (ap task_status is)) (λ is. n (ap task_status is)))

jobs_refused : (bytes : List ℕ) (t : TaskOf) → HasOneFault (JobsAnswer bytes t) jobs_status
jobs_refused bytes t f e x y m n = ap jobs_status (jobs_refusal bytes t f e x y (λ is. m (ap jobs_status is)) (λ is. n (ap jobs_status is)))

elf_refused : (bytes : List ℕ) → HasOneFault (IsAnswer bytes) elf_status
elf_refused bytes f e x y m n = ap elf_status (elf_refusal bytes f e x y (λ is. m (ap elf_status is)) (λ is. n (ap elf_status is)))

layout_refused : (t : TaskOf) (i : Image) → HasOneFault (LayoutAnswer t i) layout_status
layout_refused t i f e x y m n = ap layout_status (layout_refusal t i f e x y (λ is. m (ap layout_status is)) (λ is. n (ap layout_status is)))

admission_refused : (mode : Mode) (t : TaskOf) (i : Image) (memory : Flat) → HasOneFault (AdmitsOn mode t i memory) refusal_status
admission_refused mode t i memory f e x y m n = ap refusal_status (one_refusal mode t i f e x y (λ is. m (ap refusal_status is)) (λ is. n (ap refusal_status is)))

no_memory : {A E : Type 0} (Answers : Result A E → Type 0) → HasOneFault Answers (λ fault. Memory)
no_memory Answers f e x y m n = absurd (m refl)

layout_excluded : (t : TaskOf) (i : Image) (m : Flat) (fault : LayoutFault) → LayoutAnswer t i (Ok m) → LayoutAnswer t i (Err fault) → layout_status fault ≡ Memory
layout_excluded t i m fault is none = ap layout_status (layout_excludes t i m fault is.0 none)

refusal_excludes : (mode : Mode) (t : TaskOf) (i : Image) (m : Flat) (a : AdmittedTask) (fault : Refusal) → AdmitsOn mode t i m (Ok a) → AdmitsOn mode t i m (Err fault)
    → refusal_status fault ≡ Memory
refusal_excludes mode t i m a fault is none = ap refusal_status (times_exclude mode t i a.times fault is.1 none)

one_admitted : (mode : Mode) (t : TaskOf) (i : Image) (m : Flat) (a b : AdmittedTask) → AdmitsOn mode t i m (Ok a) → AdmitsOn mode t i m (Ok b) → a ≡ b
one_admitted mode t i m a b x y = x.0 ∙ ap (admitted_task t i m) (one_times mode t i a.times b.times x.1 y.1) ∙ sym y.0

single_task : (found : Found) (name : List ℕ) → IsSingle found (task name)
unfolding task
single_task found name =
    single_chained found _ _ (single_file found Task name) (λ bytes. single_still found (TaskAnswer bytes) task_status (one_task bytes) (λ t fault x y. ap task_status (task_or_refusal bytes t fault x y)) (task_refused bytes))

single_image : (found : Found) (t : TaskOf) (source : Source) → IsSingle found (image_from t source)
unfolding image_from
single_image found t (Words code) = single_still found (WordsAnswer t) (λ fault. Memory) (λ i j x y. x ∙ sym y) (λ i fault x y. refl) (no_memory (WordsAnswer t))
single_image found t (Name name) =
    single_chained found _ _ (single_file found ImageRole name)
    (λ bytes. single_still found (IsAnswer bytes) elf_status (one_image bytes) (λ i fault x y. ap elf_status (image_excludes bytes i fault x y)) (elf_refused bytes))

single_listing : (found : Found) (name : List ℕ) → IsSingle found (listing name)
unfolding listing
single_listing found name = single_chained found _ _ (single_task found name) (λ t. single_image found t t.image)

single_admitted : (found : Found) (mode : Mode) (t : TaskOf) (i : Image) → IsSingle found (admitted mode t i)
unfolding admitted laid_out
single_admitted found mode t i =
    single_chained found _ _ (single_still found (LayoutAnswer t i) layout_status (λ m n x y. one_layout t i m n x.0 y.0) (layout_excluded t i) (layout_refused t i))
    (λ m. single_still found (AdmitsOn mode t i m) refusal_status (one_admitted mode t i m) (refusal_excludes mode t i m) (admission_refused mode t i m))

single_admission : (found : Found) (mode : Mode) (name : List ℕ) → IsSingle found (admission mode name)
unfolding admission
single_admission found mode name =
    single_chained found _ _ (single_task found name) (λ t. single_chained found _ _ (single_image found t t.image) (λ i. single_admitted found mode t i))

single_jobs : (found : Found) (name : List ℕ) (t : TaskOf) → IsSingle found (jobs name t)
unfolding jobs
single_jobs found name t =
    single_chained found _ _ (single_file found Jobs name) (λ bytes. single_still found (JobsAnswer bytes t) jobs_status (one_jobs bytes t) (λ js fault x y. ap jobs_status (jobs_or_refusal bytes t js fault x y)) (jobs_refused bytes t))

pub single_plan : (found : Found) (mode : Mode) (task_name jobs_name : List ℕ) → IsSingle found (plan mode task_name jobs_name)
unfolding plan
single_plan found mode task_name jobs_name =
    single_chained found _ _ (single_admission found mode task_name)
    (λ a. single_chained found _ _ (single_jobs found jobs_name a.task)
    (λ js. single_still found (PlanAnswer mode a js) (λ none. Memory) (λ p q x y. x ∙ sym y) (λ p none x y. refl) (no_memory (PlanAnswer mode a js))))

single_made : (found : Found) {A : Type 0} (value : A) → IsSingle found (made value)
single_made found value = single_still found (IsMade value) (λ fault. Memory) (λ a b x y. x ∙ sym y) (λ a fault x y. refl) (no_memory (IsMade value))

single_demo_admission : (found : Found) → IsSingle found demo_admission
unfolding demo_admission
single_demo_admission found =
    single_chained found _ _ (single_made found demo_task) (λ t. single_chained found _ _ (single_image found t t.image) (λ i. single_admitted found Fast t i))

single_demo : (found : Found) (seed : ℕ) → IsSingle found (demo seed)
unfolding demo
single_demo found seed =
    single_chained found _ _ (single_demo_admission found)
    (λ a. single_chained found _ _ (single_made found (demo_jobs seed))
    (λ js. single_still found (PlanAnswer Fast a js) (λ none. Memory) (λ p q x y. x ∙ sym y) (λ p none x y. refl) (no_memory (PlanAnswer Fast a js))))

-- what a call asks for ends with one status and one list of lines, where memory is there
pub record SameEnd (s u : Status) (lines others : List (List ℕ)) : Type 0 where
  pub status : s ≡ u
  pub same : lines ≡ others

one_end : (found : Found) {A : Type 0} (stage : Stage A) (Prints : A → List (List ℕ) → Type 0) → IsSingle found stage
    → ((a : A) (lines others : List (List ℕ)) → Prints a lines → Prints a others → lines ≡ others) → (r q : List FileRead) (s u : Status) (lines others : List (List ℕ))
    → AllByRecursion (Finds found) r → AllByRecursion (Finds found) q → Ends stage Prints r s lines → Ends stage Prints q u others → s ≢ Memory → u ≢ Memory
    → SameEnd s u lines others
one_end found {A} stage Prints single print r q s u lines others fr fq (inl done) (inl again) m n =
    let same = single.gives_one r q done.0.value again.0.value fr fq done.0.gives again.0.gives in
    let Of : A → Type 0 = λ a. Prints a others in
    record { status = done.1 ∙ sym again.1; same = print done.0.value lines others done.0.prints (subst Of (sym same) again.0.prints) }
one_end found stage Prints single print r q s u lines others fr fq (inl done) (inr stops) m n =
    absurd (n (single.not_both r q done.0.value u fr fq done.0.gives stops.0))
one_end found stage Prints single print r q s u lines others fr fq (inr stops) (inl done) m n =
    absurd (m (single.not_both q r done.0.value s fq fr done.0.gives stops.0))
one_end found stage Prints single print r q s u lines others fr fq (inr stops) (inr again) m n =
    let same = single.stops_one r q s u fr fq stops.0 again.0 m n in
    record { status = same; same = stops.1 ∙ ap (λ x. line_of x ∷ []) same ∙ sym again.1 }

same_end : (found : Found) (c : Asked) (r q : List FileRead) (s u : Status) (lines others : List (List ℕ)) → AllByRecursion (Finds found) r → AllByRecursion (Finds found) q
    → Asks c r s lines → Asks c q u others → s ≢ Memory → u ≢ Memory → SameEnd s u lines others
unfolding Asks
same_end found (command.simple t j) = one_end found (plan Simple t j) (IsLog Static) (single_plan found Simple t j) (one_log Static)
same_end found (command.check t) = one_end found (admission Fast t) IsCheck (single_admission found Fast t) (λ a lines others x y. x ∙ sym y)
same_end found (command.run t j p) = one_end found (plan Fast t j) (IsLog p) (single_plan found Fast t j) (one_log p)
same_end found (command.list t) = one_end found (listing t) IsListing (single_listing found t) (λ i lines others x y. x ∙ sym y)
same_end found (command.demo seed) = one_end found (demo seed) (IsDemo seed) (single_demo found seed) (one_demo seed)

words_end : (words : List (List ℕ)) (found : Found) (r q : List FileRead) (s u : Status) (lines others : List (List ℕ)) → AllByRecursion (Finds found) r
    → AllByRecursion (Finds found) q → WordsAsk words r s lines → WordsAsk words q u others → s ≢ Memory → u ≢ Memory → SameEnd s u lines others
words_end words found r q s u lines others fr fq (inl x) (inl y) m n =
    record { status = x.status_is ∙ sym y.status_is; same = x.lines_are ∙ sym y.lines_are }
words_end words found r q s u lines others fr fq (inr (inl x)) b m n = absurd (m x.status_is)
words_end words found r q s u lines others fr fq a (inr (inl y)) m n = absurd (n y.status_is)
words_end words found r q s u lines others fr fq (inl x) (inr (inr y)) m n = absurd (x.none y.asked y.command)
words_end words found r q s u lines others fr fq (inr (inr x)) (inl y) m n = absurd (y.none x.asked x.command)
words_end words found r q s u lines others fr fq (inr (inr x)) (inr (inr y)) m n =
    let Of : Asked → Type 0 = λ c. Asks c q u others in
    same_end found x.asked r q s u lines others fr fq x.asks (subst Of (sym (one_command words x.asked y.asked x.command y.command)) y.asks) m n

-- the words and what is found have one product
pub one_product : (words : List (List ℕ)) (found : Found) (s u : Status) (text other : List ℕ) → IsProduct words found s text → IsProduct words found u other
    → (s ≡ u) × (text ≡ other)
one_product words found s u text other p q =
    let end = words_end words found p.reads q.reads s u p.lines q.lines p.finds q.finds p.ask q.ask p.memory q.memory in
    (end.status, p.text_is ∙ ap concat end.same ∙ sym q.text_is)
