-- What bounds stand on, and rows of them. This project's own.
use Rattle.std.specs.Prelude.{◌≡◌, ◌<◌, ◌≤◌, ℕ, List, length, slice_index, slice_index_or}
use Rattle.visa_io.specs.declared.records.Code.{Code}
use Rattle.task_text.specs.declared.task.Task.{Task}
use Rattle.flow_graph.specs.Flow.{Flow}
use Rattle.loop_regions.specs.Nested.{Numbered}
use Rattle.subtask_cut.specs.Cuts.{AreSubTasks, SubTasks}
use Rattle.persistence.specs.Charges.{IsCharge}
use Rattle.path_wcet.specs.declared.costs.Costs.{Costs}
use Rattle.path_wcet.specs.declared.costs.Pen.{Pen}
use Rattle.admission.specs.Found.{HasGraph, HasNest, IsBound, scope_of}

-- a graph of code, with regions that nest and cuts that keep their rules
pub record IsGround (t : Task) (code : Code) (g : Flow) (n : Numbered) (s : SubTasks) : Type 0 where
  pub has_graph : HasGraph t code g.entry g
  pub has_nest : HasNest t g n
  pub has_cuts : AreSubTasks g t.regions t.cuts s

-- the costs of a sub-task: its charges, and these cycles of accesses and slow instructions
pub record IsCostOf (t : Task) (g : Flow) (s : SubTasks) (pen : Pen) (k : ℕ) (c : Costs) : Type 0 where
  pub charge : IsCharge g (scope_of s k) t.machine.icache c.charge
  pub pen_is : c.pen ≡ pen

-- those of the first sub-tasks
pub record AreCosts (t : Task) (g : Flow) (s : SubTasks) (pen : Pen) (subs : ℕ) (costs : List Costs) : Type 0 where
  pub long : length costs ≡ subs
  pub are : (k : ℕ) → k < subs → (d : Costs) → IsCostOf t g s pen k (slice_index_or costs k d)

-- of so many sub-tasks, the first k have the costs of another point already
pub record AreChanging (t : Task) (g : Flow) (s : SubTasks) (old pen : Pen) (subs k : ℕ) (costs : List Costs) : Type 0 where
  pub long : length costs ≡ subs
  pub changed : (j : ℕ) → j < k → j < subs → (d : Costs) → IsCostOf t g s pen j (slice_index_or costs j d)
  pub rest : (j : ℕ) → k ≤ j → j < subs → (d : Costs) → IsCostOf t g s old j (slice_index_or costs j d)

-- the bounds of the first sub-tasks at a clock period
pub record IsRow (t : Task) (g : Flow) (n : Numbered) (s : SubTasks) (period subs : ℕ) (row : List ℕ) : Type 0 where
  pub long : length row ≡ subs
  pub are : (k : ℕ) → k < subs → (d : ℕ) → IsBound t g n s period k (slice_index_or row k d)

-- the bounds of all sub-tasks at the first points
pub record AreRows (t : Task) (g : Flow) (n : Numbered) (s : SubTasks) (points : ℕ) (rows : List (List ℕ)) : Type 0 where
  pub long : length rows ≡ points
  pub are : (p : ℕ) → p < points → (d : List ℕ) → IsRow t g n s (slice_index t.points p) (length s.firsts) (slice_index_or rows p d)
