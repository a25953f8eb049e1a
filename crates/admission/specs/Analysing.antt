-- What each condition of the analysis answers, by the answer of the call that tests it. This project's own.
use Rattle.std.specs.Prelude.{◌<◌, ℕ, Bool, slice_index_or}
use Rattle.visa_io.specs.declared.records.Code.{Code}
use Rattle.visa_io.specs.declared.records.Region.{Region}
use Rattle.task_text.specs.declared.task.Task.{Task}
use Rattle.flow_graph.specs.Flow.{Flow}
use Rattle.flow_graph.specs.declared.fault.FlowFault.{FlowFault}
use Rattle.flow_graph.specs.declared.fault.FlowFault.TheVariants as flow_fault
use Rattle.loop_regions.specs.Nested.{Numbered}
use Rattle.loop_regions.specs.declared.fault.RegionFault.{RegionFault}
use Rattle.loop_regions.specs.declared.fault.RegionFault.TheVariants as region_fault
use Rattle.bound_checker.specs.Gone.{mask_in}
use Rattle.bound_checker.specs.Answer.{IsProved}
use Rattle.bound_checker.specs.declared.check.Proved.{Proved}
use Rattle.bound_checker.specs.declared.fault.FactFault.{FactFault}
use Rattle.bound_checker.specs.declared.fault.FactFault.TheVariants as fact_fault
use Rattle.subtask_cut.specs.Cuts.{AreSubTasks, SubTasks}
use Rattle.subtask_cut.specs.declared.fault.CutFault.{CutFault}
use Rattle.subtask_cut.specs.declared.fault.CutFault.TheVariants as cut_fault
use Rattle.run_law.specs.Counts.{IsCounted}
use Rattle.admission.specs.Found.{HasCounts, HasFacts, HasGraph, HasNest, program}
use Rattle.admission.specs.declared.refusal.Refusal.{Refusal}
use Rattle.admission.specs.declared.refusal.Refusal.TheVariants.{Flow as FlowRefused, Region as RegionRefused, Fact, Cut, Memory}

-- the refusal of a fault; want of memory has one of its own

abbrev pub flow_refusal : FlowFault → Refusal
flow_refusal flow_fault.Memory = Memory
flow_refusal fault = FlowRefused fault

abbrev pub region_refusal : RegionFault → Refusal
region_refusal region_fault.Memory = Memory
region_refusal fault = RegionRefused fault

abbrev pub fact_refusal : FactFault → Refusal
fact_refusal fact_fault.Memory = Memory
fact_refusal fault = Fact fault

abbrev pub cut_refusal : CutFault → Refusal
cut_refusal cut_fault.Memory = Memory
cut_refusal fault = Cut fault

-- a graph and a nest, found so far
pub record AreNested (t : Task) (code : Code) (entry : ℕ) (g : Flow) (n : Numbered) : Type 0 where
  pub has_graph : HasGraph t code entry g
  pub has_nest : HasNest t g n

-- and facts that are kept, with what is kept of them
pub record AreKept (t : Task) (code : Code) (entry : ℕ) (g : Flow) (n : Numbered) (p : Proved) : Type 0 where
  pub nested : AreNested t code entry g n
  pub proved : IsProved code g t.facts p
  pub has_facts : HasFacts t code g (mask_in p.masks)

-- and the counts of the first k regions that are right
pub record AreCountedTo (t : Task) (code : Code) (entry : ℕ) (g : Flow) (n : Numbered) (k : ℕ) (p : Proved) : Type 0 where
  pub kept : AreKept t code entry g n p
  pub counts : (j : ℕ) → j < k → (d : Region) → IsCounted (program t code g (mask_in p.masks)) (slice_index_or t.regions j d)

-- and counts that are all right
pub record AreCounted (t : Task) (code : Code) (entry : ℕ) (g : Flow) (n : Numbered) (mask : ℕ → ℕ → Bool) : Type 0 where
  pub nested : AreNested t code entry g n
  pub has_facts : HasFacts t code g mask
  pub has_counts : HasCounts t code g mask

-- all that passed
pub record ArePassed (t : Task) (code : Code) (entry : ℕ) (g : Flow) (n : Numbered) (s : SubTasks) : Type 0 where
  pub mask : ℕ → ℕ → Bool
  pub counted : AreCounted t code entry g n mask
  pub has_cuts : AreSubTasks g t.regions t.cuts s
