-- The stages that commands go through, each with its own refusals. This project's own.
use Rattle.std.specs.Prelude.{◌≡◌, ℕ, List, [], ◌∷◌, Result, Ok, Err, ⊤}
use Rattle.std.specs.declared.alloc.AllocError.{AllocError}
use Rattle.visa_io.specs.declared.files.FileFault.{FileFault}
use Rattle.visa_io.specs.declared.files.FileFault.TheVariants as file_fault
use Rattle.visa_io.specs.ImageCode.{code_of_image}
use Rattle.visa_io.specs.declared.records.Image.{Image}
use Rattle.mips_elf.specs.Images.{IsAnswer}
use Rattle.mips_elf.specs.declared.error.ElfError.{ElfError}
use Rattle.mips_elf.specs.declared.error.ElfError.TheVariants as elf
use Rattle.mips_ref.specs.Memory.{Flat}
use Rattle.task_text.specs.JobsTexts.{IsJobs}
use Rattle.task_text.specs.JobsTexts as jobs_texts
use Rattle.task_text.specs.Texts.{IsTask}
use Rattle.task_text.specs.Texts as texts
use Rattle.task_text.specs.WordsImage.{words_image}
use Rattle.task_text.specs.declared.fault.JobsFault.{JobsFault}
use Rattle.task_text.specs.declared.fault.JobsFault.TheVariants as jobs_fault
use Rattle.task_text.specs.declared.fault.TaskFault.{TaskFault}
use Rattle.task_text.specs.declared.fault.TaskFault.TheVariants as task_fault
use Rattle.task_text.specs.declared.jobs.Jobs.{Jobs as JobsOf}
use Rattle.task_text.specs.declared.task.Source.{Source}
use Rattle.task_text.specs.declared.task.Source.TheVariants.{Name, Words}
use Rattle.task_text.specs.declared.task.Task.{Task as TaskOf}
use Rattle.task_layout.specs.Layout.{IsLayout}
use Rattle.task_layout.specs.declared.fault.LayoutFault.{LayoutFault}
use Rattle.task_layout.specs.declared.fault.LayoutFault.TheVariants as layout
use Rattle.demonstration.specs.Demonstration.{demo_jobs, demo_task}
use Rattle.admission.specs.declared.mode.Mode.{Mode}
use Rattle.admission.specs.declared.mode.Mode.TheVariants.{Fast}
use Rattle.admission.specs.declared.refusal.Refusal.{Refusal}
use Rattle.admission.specs.declared.refusal.Refusal.TheVariants as refusal
use Rattle.admitted_jobs.specs.Ready.{IsReady}
use Rattle.visa_cli.specs.Admission.{AdmitsOn}
use Rattle.visa_cli.specs.Reads.{FileRead}
use Rattle.visa_cli.specs.Stage.{Stage, chained, still}
use Rattle.visa_cli.specs.declared.admit.AdmittedTask.{AdmittedTask}
use Rattle.visa_cli.specs.declared.plan.Plan.{Plan}
use Rattle.visa_cli.specs.declared.status.ImageKind.TheVariants.{Elf, Layout}
use Rattle.visa_cli.specs.declared.status.Role.{Role}
use Rattle.visa_cli.specs.declared.status.Role.TheVariants.{Task, Image as ImageRole, Jobs}
use Rattle.visa_cli.specs.declared.status.Status.{Status}
use Rattle.visa_cli.specs.declared.status.Status.TheVariants.{ReadFault, TaskText, ImageRefused, Refused, JobsText, Memory, Long}

-- the file of a role

abbrev pub file_status : Role → FileFault → Status
file_status role file_fault.Failed = ReadFault role
file_status role file_fault.Long = Long role
file_status role file_fault.Memory = Memory

abbrev pub read_of : Role → List ℕ → Result (List ℕ) FileFault → FileRead
read_of role name answer = record { role = role; name = name; answer = answer }

unfoldable pub file : Role → List ℕ → Stage (List ℕ)
file role name = record {
  Gives = λ reads bytes. reads ≡ read_of role name (Ok bytes) ∷ [];
  Stops = λ reads status.
      (fault : FileFault) × (reads ≡ read_of role name (Err fault) ∷ []) × (status ≡ file_status role fault);
}

-- the task

abbrev pub task_status : TaskFault → Status
task_status (task_fault.Line at kind) = TaskText at kind
task_status task_fault.Memory = Memory

abbrev pub TaskAnswer : List ℕ → Result TaskOf TaskFault → Type 0
TaskAnswer bytes (Ok t) = IsTask bytes t
TaskAnswer bytes (Err fault) = texts.IsRefusal bytes fault

unfoldable pub task : List ℕ → Stage TaskOf
task name = chained (file Task name) (λ bytes. still (TaskAnswer bytes) task_status)

-- its image: that of its words, or that of the file that it names

abbrev pub elf_status : ElfError → Status
elf_status elf.Memory = Memory
elf_status fault = ImageRefused (Elf fault)

abbrev pub WordsAnswer : TaskOf → Result Image AllocError → Type 0
WordsAnswer t (Ok image) = image ≡ words_image t
WordsAnswer t (Err fault) = ⊤

unfoldable pub image_from : TaskOf → Source → Stage Image
image_from t (Words code) = still (WordsAnswer t) (λ fault. Memory)
image_from t (Name name) = chained (file ImageRole name) (λ bytes. still (IsAnswer bytes) elf_status)

abbrev pub image : TaskOf → Stage Image
image t = image_from t t.image

-- the image of the task of a file: it is neither laid out nor admitted

unfoldable pub listing : List ℕ → Stage Image
listing name = chained (task name) image

-- the memory that the task is given with its image

abbrev pub layout_status : LayoutFault → Status
layout_status layout.Memory = Memory
layout_status fault = ImageRefused (Layout fault)

-- it is that of the layout, and jobs can be released on it: the words of the image's code stand there as they are read
abbrev pub LayoutAnswer : TaskOf → Image → Result Flat LayoutFault → Type 0
LayoutAnswer t image (Ok memory) = IsLayout t image (Ok memory) × IsReady t (code_of_image image) memory
LayoutAnswer t image (Err fault) = IsLayout t image (Err fault)

unfoldable pub laid_out : TaskOf → Image → Stage Flat
laid_out t image = still (LayoutAnswer t image) layout_status

-- its admission for a mode

abbrev pub refusal_status : Refusal → Status
refusal_status refusal.Memory = Memory
refusal_status other = Refused other

unfoldable pub admitted : Mode → TaskOf → Image → Stage AdmittedTask
admitted mode t image = chained (laid_out t image) (λ memory. still (AdmitsOn mode t image memory) refusal_status)

unfoldable pub admission : Mode → List ℕ → Stage AdmittedTask
admission mode name = chained (task name) (λ t. chained (image t) (admitted mode t))

-- the jobs

abbrev pub jobs_status : JobsFault → Status
jobs_status (jobs_fault.Line at) = JobsText at
jobs_status jobs_fault.Memory = Memory

abbrev pub JobsAnswer : List ℕ → TaskOf → Result JobsOf JobsFault → Type 0
JobsAnswer bytes t (Ok jobs) = IsJobs bytes t jobs
JobsAnswer bytes t (Err fault) = jobs_texts.IsRefusal bytes t fault

unfoldable pub jobs : List ℕ → TaskOf → Stage JobsOf
jobs name t = chained (file Jobs name) (λ bytes. still (JobsAnswer bytes t) jobs_status)

-- a task that is admitted for a mode, and its jobs

abbrev pub PlanAnswer : Mode → AdmittedTask → JobsOf → Result Plan ⊤ → Type 0
PlanAnswer mode a jobs (Ok plan) =
    plan ≡ record { mode = mode; task = a.task; entry = a.entry; memory = a.memory; times = a.times; jobs = jobs }
PlanAnswer mode a jobs (Err none) = ⊥

unfoldable pub plan : Mode → List ℕ → List ℕ → Stage Plan
plan mode task_name jobs_name =
    chained (admission mode task_name)
    (λ a. chained (jobs jobs_name a.task) (λ js. still (PlanAnswer mode a js) (λ none. Memory)))

-- a value that is made, unless memory runs out

abbrev pub IsMade : {A : Type 0} → A → Result A AllocError → Type 0
IsMade value (Ok a) = a ≡ value
IsMade value (Err fault) = ⊤

abbrev pub made : {A : Type 0} → A → Stage A
made value = still (IsMade value) (λ fault. Memory)

-- the task of the demonstration, which is admitted for fast mode, and its jobs for a seed: no file holds them

unfoldable pub demo_admission : Stage AdmittedTask
demo_admission = chained (made demo_task) (λ t. chained (image t) (admitted Fast t))

unfoldable pub demo : ℕ → Stage Plan
demo seed =
    chained demo_admission
    (λ a. chained (made (demo_jobs seed)) (λ js. still (PlanAnswer Fast a js) (λ none. Memory)))
