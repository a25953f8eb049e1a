-- What the analysis of a task finds, and the bounds of its sub-tasks. This project's own.
use Rattle.std.specs.Prelude.{◌≡◌, ◌⊎◌, ◌↔◌, ◌<◌, ℕ, suc, ◌+◌, ◌*◌, min, Bool, List, [], ◌++◌, All, map, length, slice_get, slice_index, slice_index_or, unwrap_or}
use Rattle.std.specs.Int.{div_ceil}
use Rattle.std.specs.List.{Contains}
use Rattle.visa_io.specs.declared.records.Code.{Code}
use Rattle.visa_io.specs.declared.records.FactLine.{FactLine}
use Rattle.visa_io.specs.declared.records.Image.{Image}
use Rattle.visa_io.specs.declared.records.Machine.{Machine}
use Rattle.task_text.specs.declared.task.Task.{Task}
use Rattle.flow_graph.specs.Flow.{Flow, IsGraph}
use Rattle.flow_graph.specs.Reached.{IsStart, Reached}
use Rattle.loop_regions.specs.Nested.{IsNest, Numbered}
use Rattle.range_facts.specs.Transfer.{opening_of}
use Rattle.range_facts.specs.declared.facts.Facts.{Facts}
use Rattle.run_law.specs.Counts.{IsCounted}
use Rattle.run_law.specs.Loops.{loops_of}
use Rattle.run_law.specs.Masks.{AreMasks}
use Rattle.run_law.specs.Program.{Program}
use Rattle.bound_checker.specs.Checked.{AllKept}
use Rattle.bound_checker.specs.Lines.{blocks_of, program_of}
use Rattle.subtask_cut.specs.Cuts.{AreSubTasks, SubTasks}
use Rattle.persistence.specs.Charges.{Charge, IsCharge}
use Rattle.path_wcet.specs.Longest.{IsLongest}
use Rattle.path_wcet.specs.Paid.{cap}
use Rattle.path_wcet.specs.declared.costs.Costs.{Costs}
use Rattle.path_wcet.specs.declared.costs.Pen.{Pen}

-- where jobs begin: the entry of the task, or that of its image where the task has none
abbrev pub entry_of : Task → Image → ℕ
entry_of t image = unwrap_or t.entry image.entry

-- the cycles beyond the first of accesses and of slow instructions at a clock period
abbrev pub pen_of : Machine → ℕ → Pen
pen_of m period = record { m = div_ceil m.mem_ps period; w = div_ceil m.store_ps period; mul = m.mul; div = m.div }

-- where blocks begin beside the starts of the code's own: at cuts, and at the addresses of facts
abbrev pub extra_starts : Task → List ℕ
extra_starts t = t.cuts ++ map (λ (f : FactLine). f.at) t.facts

-- the graph of the code; its blocks begin at the code's starts and at those of the others that are units
pub record HasGraph (t : Task) (code : Code) (entry : ℕ) (g : Flow) : Type 0 where
  pub graph : IsGraph code entry g
  pub blocks : (a : ℕ) → Contains g.blocks a ↔ (IsStart code entry a ⊎ (Contains (extra_starts t) a × Reached code entry a))

-- its regions nest
pub record HasNest (t : Task) (g : Flow) (n : Numbered) : Type 0 where
  pub nest : IsNest g n
  pub regions_are : n.regions ≡ t.regions

-- the code with its graph, regions and facts, and masks of what functions may write
abbrev pub program : Task → Code → Flow → (ℕ → ℕ → Bool) → Program
program t code g mask = program_of code g t.facts (loops_of g t.regions) mask

-- what is known of the registers as a job opens
abbrev pub opening_facts : Task → Facts
opening_facts t = opening_of t.input_at t.input_len t.stack

-- the facts are kept along every edge
pub record HasFacts (t : Task) (code : Code) (g : Flow) (mask : ℕ → ℕ → Bool) : Type 0 where
  pub masks : AreMasks code g.entry mask
  pub kept : AllKept (program t code g mask) (blocks_of g t.facts) (opening_facts t)

-- the counts of the regions are right
abbrev pub HasCounts : Task → Code → Flow → (ℕ → ℕ → Bool) → Type 0
HasCounts t code g mask = All (IsCounted (program t code g mask)) t.regions

-- what passed: the graph, the regions, the facts, the counts and the cuts
pub record Analysis (t : Task) (code : Code) (entry : ℕ) : Type 0 where
  pub graph : Flow
  pub nest : Numbered
  pub mask : ℕ → ℕ → Bool
  pub subs : SubTasks
  pub has_graph : HasGraph t code entry graph
  pub has_nest : HasNest t graph nest
  pub has_facts : HasFacts t code graph mask
  pub has_counts : HasCounts t code graph mask
  pub has_cuts : AreSubTasks graph t.regions t.cuts subs

-- the units of a sub-task, counted from 0
abbrev pub scope_of : SubTasks → ℕ → List ℕ
scope_of s k = slice_index_or s.scopes k []

abbrev pub costs_with : Charge → Pen → Costs
costs_with charge pen = record { charge = charge; pen = pen }

-- The bound of a sub-task at a clock period, cycles: what the costliest legal walk costs that begins at its first unit and goes no
-- further than into the next cut, and a miss for each persistent line; at most 10^18.
pub record IsBound (t : Task) (g : Flow) (n : Numbered) (s : SubTasks) (period k bound : ℕ) : Type 0 where
  pub charge : Charge
  pub is_charge : IsCharge g (scope_of s k) t.machine.icache charge
  pub most : ℕ
  pub longest : IsLongest g n (costs_with charge (pen_of t.machine period)) (slice_index s.firsts k) (slice_get s.firsts (suc k)) most
  pub bound_is : bound ≡ min cap (most + (pen_of t.machine period).m * charge.persistent)

-- the bounds of all sub-tasks at a point
abbrev pub bounds_at : List (List ℕ) → ℕ → List ℕ
bounds_at bounds point = slice_index_or bounds point []

-- the bounds at each point, of each sub-task
pub record AreBounds (t : Task) (g : Flow) (n : Numbered) (s : SubTasks) (bounds : List (List ℕ)) : Type 0 where
  pub points : length bounds ≡ length t.points
  pub subs : (point : ℕ) → point < length t.points → length (bounds_at bounds point) ≡ length s.firsts
  pub are : (point k : ℕ) → point < length t.points → k < length s.firsts
      → IsBound t g n s (slice_index t.points point) k (slice_index (bounds_at bounds point) k)
