-- An admitted task. This project's own.
use Rattle.std.specs.Prelude.{◌≡◌, Result, Ok, Err}
use Rattle.visa_io.specs.ImageCode.{code_of_image}
use Rattle.visa_io.specs.declared.records.Image.{Image}
use Rattle.mips_ref.specs.Memory.{Flat}
use Rattle.task_text.specs.Limits.{KeepsLimits}
use Rattle.task_text.specs.declared.task.Task.{Task}
use Rattle.admission.specs.Admitted.{IsAdmitted, Times}
use Rattle.admission.specs.Found.{entry_of}
use Rattle.admission.specs.Refused.{Admits}
use Rattle.admission.specs.declared.mode.Mode.{Mode}
use Rattle.admission.specs.declared.refusal.Refusal.{Refusal}
use Rattle.admitted_jobs.specs.Ready.{IsReady}
use Rattle.visa_cli.specs.declared.admit.AdmittedTask.{AdmittedTask}

-- a task with its image and its memory, and what is kept of its admission
abbrev pub admitted_task : Task → Image → Flat → Times → AdmittedTask
admitted_task t image memory times = record { task = t; entry = entry_of t image; memory = memory; times = times }

-- whether a task, laid out with its image on a memory, is admitted, or why not
abbrev pub AdmitsOn : Mode → Task → Image → Flat → Result AdmittedTask Refusal → Type 0
AdmitsOn mode t image memory (Ok a) = (a ≡ admitted_task t image memory a.times) × Admits mode t image (Ok a.times)
AdmitsOn mode t image memory (Err refusal) = Admits mode t image (Err refusal)

-- a task was admitted in a mode, and its first job can open
pub record IsFit (mode : Mode) (a : AdmittedTask) : Type 0 where
  pub image : Image
  pub limits : KeepsLimits a.task
  pub entry_is : a.entry ≡ entry_of a.task image
  pub admitted : IsAdmitted mode a.task image a.times
  pub ready : IsReady a.task (code_of_image image) a.memory
