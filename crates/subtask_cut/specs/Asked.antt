-- What the code asks of a graph, as each graph of code has it, and what it tells of one cut. This project's own.
use Rattle.std.specs.Prelude.{◌≡◌, ◌≢◌, ◌≤◌, ◌↔◌, ℕ, List, Option, Some, None, Contains, length, slice_get, slice_index, slice_index_or, [], Bool}
use Rattle.std.specs.List.Sorted.{IsStrictlyIncreasing}
use Rattle.visa_io.specs.declared.records.Region.{Region}
use Rattle.flow_graph.specs.Flow.{Flow}
use Rattle.mips_isa.specs.Kinds.{kind_of}
use Rattle.mips_isa.specs.declared.instr.Kind.TheVariants as kind
use Rattle.flow_graph.specs.declared.parts.Edge.{Edge}
use Rattle.flow_graph.specs.declared.parts.Unit.{Unit as FlowUnit}
use Rattle.loop_regions.specs.Ways.{addresses_of}
use Rattle.subtask_cut.specs.Cuts.{Has, IsFirst, IsScope, number_of, rank}
use Rattle.subtask_cut.specs.Search.{IsOn}
use Rattle.subtask_cut.specs.Ways.{IsReached, is_onward}
use Rattle.subtask_cut.specs.declared.fault.CutFault.{CutFault}

-- the entry is a unit, and beside each function stand its units by rising address
pub record HasFunctions (g : Flow) : Type 0 where
  pub entry : Contains (addresses_of g.units) g.entry
  pub beside : length g.function_units ≡ length g.functions
  pub rise : (k : ℕ) (us : List ℕ) → slice_get g.function_units k ≡ Some us → IsStrictlyIncreasing us

-- a unit is one of the function at this place, and that isn't the entry's
abbrev pub IsOther : Flow → ℕ → ℕ → Type 0
IsOther g f c = (slice_index g.functions f ≢ g.entry) × Contains (slice_index_or g.function_units f []) c

-- a marked unit returns
abbrev pub DoesReturn : List FlowUnit → List ℕ → List Bool → Type 0
DoesReturn units addresses marks =
    (unit : FlowUnit) × Contains units unit × (kind_of unit.first ≡ kind.Return) × IsOn addresses marks unit.at

-- the first fault of the cut of this number, if it has one
abbrev pub IsFaultOf : Flow → List Region → List ℕ → ℕ → Option CutFault → Type 0
IsFaultOf g rs cuts i None = (fault : CutFault) → Has g rs cuts fault → number_of fault ≢ i
IsFaultOf g rs cuts i (Some fault) =
    Has g rs cuts fault × (number_of fault ≡ i)
    × ((other : CutFault) → Has g rs cuts other → number_of other ≡ i → rank fault ≤ rank other)

-- the first fault of all cuts, if there is one
abbrev pub IsFaultOfAll : Flow → List Region → List ℕ → Option CutFault → Type 0
IsFaultOfAll g rs cuts None = (fault : CutFault) → Has g rs cuts fault → ⊥
IsFaultOfAll g rs cuts (Some fault) = IsFirst g rs cuts fault

-- the units that are reached in a sub-task from its first unit without coming to the next one's, by rising address
pub record AreReached (edges : List Edge) (next : Option ℕ) (first : ℕ) (us : List ℕ) : Type 0 where
  pub are : (u : ℕ) → Contains us u ↔ IsReached edges is_onward next first u
  pub rise : IsStrictlyIncreasing us

-- the sub-tasks, by where they begin
pub record AreScopes (g : Flow) (firsts : List ℕ) (scopes : List (List ℕ)) : Type 0 where
  pub beside : length scopes ≡ length firsts
  pub are : (k : ℕ) (us : List ℕ) → slice_get scopes k ≡ Some us → IsScope g firsts k us
