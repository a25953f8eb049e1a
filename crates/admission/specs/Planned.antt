-- The plans of the first pairs of points. This project's own.
use Rattle.std.specs.Prelude.{◌≡◌, ◌<◌, ◌≤◌, ◌*◌, ◌/◌, ◌%◌, ℕ, List, None, length, slice_index_or}
use Rattle.task_text.specs.declared.task.Task.{Task}
use Rattle.frequency_pick.specs.Choice.{PlanTable}
use Rattle.admission.specs.Plans.{IsPlanOf}

-- the first k pairs have their plans, and the others none
pub record ArePlanned (t : Task) (bounds : List (List ℕ)) (points k : ℕ) (plans : PlanTable) : Type 0 where
  pub points_are : plans.points ≡ points
  pub long : length plans.plans ≡ points * points
  pub done : (j : ℕ) → j < k → IsPlanOf t bounds (j / points) (j % points) (slice_index_or plans.plans j None)
  pub rest : (j : ℕ) → k ≤ j → slice_index_or plans.plans j None ≡ None
