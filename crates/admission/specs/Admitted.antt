-- A task that is admitted. This project's own.
use Rattle.std.specs.Prelude.{◌≤◌, ℕ, ◌+◌, ◌-◌, List, length}
use Rattle.visa_io.specs.ImageCode.{code_of_image}
use Rattle.visa_io.specs.declared.records.Image.{Image}
use Rattle.task_text.specs.TaskParts.{fastest_ps}
use Rattle.task_text.specs.declared.task.Task.{Task}
use Rattle.checkpoint_plan.specs.Plan.{owed_of, rem_of}
use Rattle.frequency_pick.specs.Choice.{PlanTable}
use Rattle.admission.specs.Found.{Analysis, AreBounds, bounds_at, entry_of}
use Rattle.admission.specs.Plans.{ArePlans}
use Rattle.admission.specs.declared.mode.Mode.{Mode}
use Rattle.admission.specs.declared.mode.Mode.TheVariants.{Simple, Fast}

-- the bounds at the fastest point, the last one
abbrev pub fastest_bounds : Task → List (List ℕ) → List ℕ
fastest_bounds t bounds = bounds_at bounds (length t.points - 1)

-- the time that a job may need from its release, ps: in simple mode the start and what its bounds take at the fastest point; in fast
-- mode also the overhead of a switch there
unfoldable pub needed_of : Mode → Task → List (List ℕ) → ℕ
needed_of Simple t bounds = t.machine.start_ps + rem_of (fastest_bounds t bounds) (fastest_ps t)
needed_of Fast t bounds = owed_of t.machine (fastest_ps t) (fastest_ps t) (fastest_bounds t bounds)

-- what is kept of an admitted task: the bound of each sub-task at each point, cycles, and the plans of the pairs of points
pub record Times : Type 0 where
  pub bounds : List (List ℕ)
  pub plans : PlanTable

-- a task is admitted with its image: its analysis passed, and its jobs have the time that they may need
pub record IsAdmitted (mode : Mode) (t : Task) (i : Image) (times : Times) : Type 0 where
  pub analysis : Analysis t (code_of_image i) (entry_of t i)
  pub bounds : AreBounds t analysis.graph analysis.nest analysis.subs times.bounds
  pub plans : ArePlans t times.bounds times.plans
  pub in_time : needed_of mode t times.bounds ≤ t.deadline_ps
