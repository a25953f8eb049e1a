-- What is charged for the scopes of a task's sub-tasks. This project's own.
use Rattle.std.specs.Prelude.{◌≡◌, ℕ, Option}
use Rattle.visa_io.specs.declared.records.Shape.{Shape}
use Rattle.flow_graph.specs.Flow.{Flow}
use Rattle.persistence.specs.Charges.{Charge, IsCharge, charged_by, is_covered}
use Rattle.remaining_wcet.specs.SubTasks.{SubTasks}

-- the charge of a sub-task's scope is what the analysis of the task takes
pub record ChargesSub (t : SubTasks) (g : Flow) (shape : Option Shape) (k : ℕ) (charge : Charge) : Type 0 where
  pub is_charge : IsCharge g (t.scope k) shape charge
  pub charged : (at : ℕ) → t.charged k at ≡ charged_by charge at
  pub covered : (at : ℕ) → t.covered k at ≡ is_covered g (t.scope k) shape at
  pub lines : t.lines k ≡ charge.persistent
