-- The plans of the pairs of operating points. This project's own.
use Rattle.std.specs.Prelude.{◌≡◌, ◌<◌, ◌*◌, ℕ, List, length, slice_index, Option, Some, None}
use Rattle.task_text.specs.declared.task.Task.{Task}
use Rattle.checkpoint_plan.specs.Plan.{IsPlan, owed_of}
use Rattle.checkpoint_plan.specs.declared.plan.Plan.{Plan}
use Rattle.frequency_pick.specs.Choice.{PlanTable, plan_of}
use Rattle.admission.specs.Rows.{row_at}

-- the plan of a pair of points, which it has exactly where its first checkpoint isn't negative
abbrev pub IsPlanOf : Task → List (List ℕ) → ℕ → ℕ → Option Plan → Type 0
IsPlanOf t bounds a b (Some p) = IsPlan t (row_at bounds b) a b (slice_index t.points a) (slice_index t.points b) p
IsPlanOf t bounds a b None = t.deadline_ps < owed_of t.machine (slice_index t.points a) (slice_index t.points b) (row_at bounds b)

-- the plans of all pairs, one place for each
pub record ArePlans (t : Task) (bounds : List (List ℕ)) (plans : PlanTable) : Type 0 where
  pub points : plans.points ≡ length t.points
  pub long : length plans.plans ≡ length t.points * length t.points
  pub are : (a b : ℕ) → a < length t.points → b < length t.points → IsPlanOf t bounds a b (plan_of plans (record { a = a; b = b }))
