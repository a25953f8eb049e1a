-- Why a task isn't admitted: the first condition that fails, in the order of the analysis. This project's own.
use Rattle.std.specs.Prelude.{◌≡◌, ◌<◌, ℕ, ◌+◌, Bool, List, All, take, slice_get, Some, Result, Ok, Err}
use Rattle.visa_io.specs.ImageCode.{code_of_image}
use Rattle.visa_io.specs.declared.records.Code.{Code}
use Rattle.visa_io.specs.declared.records.Image.{Image}
use Rattle.visa_io.specs.declared.records.Region.{Region as Loops}
use Rattle.task_text.specs.declared.task.Task.{Task}
use Rattle.flow_graph.specs.Flow.{Flow}
use Rattle.flow_graph.specs.Flow as flow
use Rattle.loop_regions.specs.Nested.{Numbered}
use Rattle.loop_regions.specs.Regions as regions
use Rattle.loop_regions.specs.declared.fault.RegionFault.{RegionFault}
use Rattle.run_law.specs.Counts.{IsCounted}
use Rattle.run_law.specs.Masks.{AreMasks}
use Rattle.bound_checker.specs.Checked as facts
use Rattle.bound_checker.specs.Counted as counts
use Rattle.bound_checker.specs.Lines.{blocks_of}
use Rattle.bound_checker.specs.declared.fault.CountFault.{CountFault}
use Rattle.bound_checker.specs.declared.fault.FactFault.{FactFault}
use Rattle.bound_checker.specs.declared.fault.FactFault.TheVariants as fact_fault
use Rattle.subtask_cut.specs.Cuts as cuts
use Rattle.subtask_cut.specs.declared.fault.CutFault.{CutFault}
use Rattle.admission.specs.Admitted.{IsAdmitted, Times, needed_of}
use Rattle.admission.specs.Found.{Analysis, AreBounds, HasCounts, HasFacts, HasGraph, HasNest, entry_of, opening_facts, program}
use Rattle.admission.specs.declared.mode.Mode.{Mode}
use Rattle.admission.specs.declared.refusal.Refusal.{Refusal}
use Rattle.admission.specs.declared.refusal.Refusal.TheVariants.{Flow as FlowRefused, Region, Fact, Loop, Cut, Exceeds, Memory}

-- the regions don't nest
pub record RegionFails (t : Task) (code : Code) (entry : ℕ) (fault : RegionFault) : Type 0 where
  pub graph : Flow
  pub has_graph : HasGraph t code entry graph
  pub first : regions.IsFirstFault graph t.regions fault

-- a fact isn't kept along an edge
pub record FactFails (t : Task) (code : Code) (entry from to r : ℕ) : Type 0 where
  pub graph : Flow
  pub nest : Numbered
  pub mask : ℕ → ℕ → Bool
  pub has_graph : HasGraph t code entry graph
  pub has_nest : HasNest t graph nest
  pub masks : AreMasks code graph.entry mask
  pub first : facts.IsFirst (program t code graph mask) (blocks_of graph t.facts) (opening_facts t) from to r

-- the count of a region isn't right, and those of the regions before it are
pub record LoopFails (t : Task) (code : Code) (entry : ℕ) (fault : CountFault) : Type 0 where
  pub graph : Flow
  pub nest : Numbered
  pub mask : ℕ → ℕ → Bool
  pub has_graph : HasGraph t code entry graph
  pub has_nest : HasNest t graph nest
  pub has_facts : HasFacts t code graph mask
  pub place : ℕ
  pub region : Loops
  pub at : slice_get t.regions place ≡ Some region
  pub earlier : All (IsCounted (program t code graph mask)) (take place t.regions)
  pub first : counts.IsCountAnswer (program t code graph mask) region (place + 1) (Err fault)

-- a cut doesn't keep its rules
pub record CutFails (t : Task) (code : Code) (entry : ℕ) (fault : CutFault) : Type 0 where
  pub graph : Flow
  pub nest : Numbered
  pub mask : ℕ → ℕ → Bool
  pub has_graph : HasGraph t code entry graph
  pub has_nest : HasNest t graph nest
  pub has_facts : HasFacts t code graph mask
  pub has_counts : HasCounts t code graph mask
  pub first : cuts.IsFirst graph t.regions t.cuts fault

-- all passed, but jobs may need more time than the deadline leaves: the two times, ps
pub record IsLate (mode : Mode) (t : Task) (i : Image) (needed deadline : ℕ) : Type 0 where
  pub analysis : Analysis t (code_of_image i) (entry_of t i)
  pub bounds : List (List ℕ)
  pub are : AreBounds t analysis.graph analysis.nest analysis.subs bounds
  pub needed_is : needed ≡ needed_of mode t bounds
  pub deadline_is : deadline ≡ t.deadline_ps
  pub above : deadline < needed

abbrev pub FactFailsBy : Task → Code → ℕ → FactFault → Type 0
FactFailsBy t code entry (fact_fault.NotHeld from to r) = FactFails t code entry from to r
FactFailsBy t code entry fact_fault.Memory = ⊥

-- the first condition that fails, of those that don't ask for bounds
abbrev pub IsRefused : Task → Code → ℕ → Refusal → Type 0
IsRefused t code entry (FlowRefused fault) = flow.IsFirst code entry fault
IsRefused t code entry (Region fault) = RegionFails t code entry fault
IsRefused t code entry (Fact fault) = FactFailsBy t code entry fault
IsRefused t code entry (Loop fault) = LoopFails t code entry fault
IsRefused t code entry (Cut fault) = CutFails t code entry fault
IsRefused t code entry (Exceeds needed deadline) = ⊥
IsRefused t code entry Memory = Unit {0}

-- whether a task is admitted with its image, or the first condition that fails; where memory is wanting, that at any time
unfoldable pub Admits : Mode → Task → Image → Result Times Refusal → Type 0
Admits mode t i (Ok times) = IsAdmitted mode t i times
Admits mode t i (Err (Exceeds needed deadline)) = IsLate mode t i needed deadline
Admits mode t i (Err fault) = IsRefused t (code_of_image i) (entry_of t i) fault
