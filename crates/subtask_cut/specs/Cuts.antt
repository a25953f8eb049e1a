-- A task is cut into sub-tasks where its cuts stand: sub-task 1 begins at the entry, and cut number i begins sub-task i, so that the first
-- cut has number 2. What is wrong with cuts, and the units of each sub-task. This project's own.
use Rattle.std.specs.Prelude.{◌≡◌, ◌≢◌, ◌<◌, ◌≤◌, ◌⊎◌, ◌↔◌, ℕ, suc, ◌+◌, true, List, ◌∷◌, length, slice_get, map, Some, Result, Ok, Err}
use Rattle.std.specs.List.{Contains}
use Rattle.std.specs.List.Sorted.{IsStrictlyIncreasing}
use Rattle.visa_io.specs.declared.records.Region.{Region}
use Rattle.mips_isa.specs.Kinds.{kind_of}
use Rattle.mips_isa.specs.declared.instr.Kind.TheVariants as kind
use Rattle.flow_graph.specs.Flow.{Flow}
use Rattle.flow_graph.specs.Reached.{is_inner}
use Rattle.flow_graph.specs.declared.parts.Unit.{Unit as FlowUnit}
use Rattle.loop_regions.specs.Walks.{holds}
use Rattle.subtask_cut.specs.Ways.{IsReached, is_onward, units_of}
use Rattle.subtask_cut.specs.declared.fault.CutFault.{CutFault}
use Rattle.subtask_cut.specs.declared.fault.CutFault.TheVariants.{Slot, InCallee, InRegion, Order, Bypassed, Memory}

-- the cut of number i is at this address
pub record IsCut (cuts : List ℕ) (i c : ℕ) : Type 0 where
  pub place : ℕ
  pub at : slice_get cuts place ≡ Some c
  pub number : i ≡ place + 2

-- a unit that returns from its function
pub record IsReturn (g : Flow) (u : ℕ) : Type 0 where
  pub unit : FlowUnit
  pub among : Contains g.units unit
  pub at : unit.at ≡ u
  pub returns : kind_of unit.first ≡ kind.Return

-- a unit of the entry's function is reached in it from the entry without coming to another unit
abbrev pub IsReachedWithout : Flow → ℕ → ℕ → Type 0
IsReachedWithout g other u = IsReached g.edges is_inner (Some other) g.entry u

-- no unit begins at the cut
abbrev pub IsNoUnit : Flow → ℕ → Type 0
IsNoUnit g c = Contains (map (λ (u : FlowUnit). u.at) g.units) c → ⊥

-- the cut is no unit of the entry's function, or one of another function too
abbrev pub IsInCallee : Flow → ℕ → Type 0
IsInCallee g c = (Contains (units_of g g.entry) c → ⊥) ⊎ ((f : ℕ) × (f ≢ g.entry) × Contains (units_of g f) c)

abbrev pub IsInRegion : List Region → ℕ → Type 0
IsInRegion rs c = (r : Region) × Contains rs r × (holds r c ≡ true)

-- the cut of this number is the entry or an earlier cut, or is reached without the cut before it
abbrev pub IsOutOfOrder : Flow → List ℕ → ℕ → ℕ → Type 0
IsOutOfOrder g cuts i c =
    (c ≡ g.entry) ⊎ ((j : ℕ) × (j < i) × IsCut cuts j c) ⊎ ((j b : ℕ) × (suc j ≡ i) × IsCut cuts j b × IsReachedWithout g b c)

-- the entry's function is left without the cut
abbrev pub IsBypassed : Flow → ℕ → Type 0
IsBypassed g c = (u : ℕ) × IsReturn g u × IsReachedWithout g c u

-- the cuts have a fault
abbrev pub Has : Flow → List Region → List ℕ → CutFault → Type 0
Has g rs cuts (Slot i) = (c : ℕ) × IsCut cuts i c × IsNoUnit g c
Has g rs cuts (InCallee i) = (c : ℕ) × IsCut cuts i c × IsInCallee g c
Has g rs cuts (InRegion i) = (c : ℕ) × IsCut cuts i c × IsInRegion rs c
Has g rs cuts (Order i) = (c : ℕ) × IsCut cuts i c × IsOutOfOrder g cuts i c
Has g rs cuts (Bypassed i) = (c : ℕ) × IsCut cuts i c × IsBypassed g c
Has g rs cuts Memory = ⊥

-- the cut that a fault is of, and the order in which the faults of one cut are told
abbrev pub number_of : CutFault → ℕ
number_of (Slot i) = i
number_of (InCallee i) = i
number_of (InRegion i) = i
number_of (Order i) = i
number_of (Bypassed i) = i
number_of Memory = 0

abbrev pub rank : CutFault → ℕ
rank (Slot i) = 1
rank (InCallee i) = 2
rank (InRegion i) = 3
rank (Order i) = 4
rank (Bypassed i) = 5
rank Memory = 6

abbrev pub IsNoLater : CutFault → CutFault → Type 0
IsNoLater fault other =
    (number_of fault < number_of other) ⊎ ((number_of fault ≡ number_of other) × (rank fault ≤ rank other))

-- the first fault: of the least cut, and of its faults the first in the order above
pub record IsFirst (g : Flow) (rs : List Region) (cuts : List ℕ) (fault : CutFault) : Type 0 where
  pub has : Has g rs cuts fault
  pub first : (other : CutFault) → Has g rs cuts other → IsNoLater fault other

-- where sub-tasks begin, in order, and the units of each
pub record SubTasks : Type 0 where
  pub firsts : List ℕ
  pub scopes : List (List ℕ)

-- the units from a sub-task's first on, up to where the next one begins
abbrev pub IsInScope : Flow → List ℕ → ℕ → ℕ → Type 0
IsInScope g firsts k u = (first : ℕ) × (slice_get firsts k ≡ Some first) × IsReached g.edges is_onward (slice_get firsts (suc k)) first u

-- the units of a sub-task by rising address
pub record IsScope (g : Flow) (firsts : List ℕ) (k : ℕ) (us : List ℕ) : Type 0 where
  pub are : (u : ℕ) → Contains us u ↔ IsInScope g firsts k u
  pub rise : IsStrictlyIncreasing us

-- the sub-tasks of cuts without a fault
pub record AreSubTasks (g : Flow) (rs : List Region) (cuts : List ℕ) (s : SubTasks) : Type 0 where
  pub sound : (fault : CutFault) → Has g rs cuts fault → ⊥
  pub firsts_are : s.firsts ≡ g.entry ∷ cuts
  pub beside : length s.scopes ≡ length s.firsts
  pub scopes_are : (k : ℕ) (us : List ℕ) → slice_get s.scopes k ≡ Some us → IsScope g s.firsts k us

-- what comes of cuts: the sub-tasks, or the first fault; where memory is wanting, that at any time
abbrev pub IsAnswer : Flow → List Region → List ℕ → Result SubTasks CutFault → Type 0
IsAnswer g rs cuts (Ok s) = AreSubTasks g rs cuts s
IsAnswer g rs cuts (Err Memory) = Unit {0}
IsAnswer g rs cuts (Err fault) = IsFirst g rs cuts fault
