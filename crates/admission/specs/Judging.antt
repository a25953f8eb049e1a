-- Bounds and plans of a task that passed the analysis, and whether its deadline leaves the time that they need. This project's own.
use Rattle.std.specs.Prelude.{◌≡◌, ◌<◌, ◌≤◌, ℕ, Result, Ok, Err}
use Rattle.visa_io.specs.declared.records.Code.{Code}
use Rattle.task_text.specs.declared.task.Task.{Task}
use Rattle.flow_graph.specs.Flow.{Flow}
use Rattle.loop_regions.specs.Nested.{Numbered}
use Rattle.subtask_cut.specs.Cuts.{SubTasks}
use Rattle.admission.specs.Admitted.{Times, needed_of}
use Rattle.admission.specs.Analysing.{ArePassed}
use Rattle.admission.specs.Found.{AreBounds}
use Rattle.admission.specs.Plans.{ArePlans}
use Rattle.admission.specs.declared.mode.Mode.{Mode}
use Rattle.admission.specs.declared.refusal.Refusal.{Refusal}
use Rattle.admission.specs.declared.refusal.Refusal.TheVariants.{Exceeds}

-- all that passed, with its bounds and plans
pub record IsTimed (t : Task) (code : Code) (entry : ℕ) (times : Times) : Type 0 where
  pub graph : Flow
  pub nest : Numbered
  pub subs : SubTasks
  pub passed : ArePassed t code entry graph nest subs
  pub bounds : AreBounds t graph nest subs times.bounds
  pub plans : ArePlans t times.bounds times.plans

-- the deadline leaves the time that is needed, or it doesn't, with both
abbrev pub Judges : Mode → Task → Times → Result Times Refusal → Type 0
Judges mode t times (Ok a) = (a ≡ times) × (needed_of mode t times.bounds ≤ t.deadline_ps)
Judges mode t times (Err (Exceeds needed deadline)) =
    (needed ≡ needed_of mode t times.bounds) × (deadline ≡ t.deadline_ps) × (deadline < needed)
Judges mode t times (Err fault) = ⊥
