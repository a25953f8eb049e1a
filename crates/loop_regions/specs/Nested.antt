-- Regions that nest in a graph, and what comes of regions. This project's own.
use Rattle.std.specs.Prelude.{ℕ, ◌≡◌, ◌<◌, ◌⊎◌, length, Option, Some, None, Result, Ok, Err, List, AllPairs}
use Rattle.std.specs.List.Sorted.{IsStrictlyIncreasing}
use Rattle.visa_io.specs.declared.records.Region.{Region}
use Rattle.flow_graph.specs.Flow.{ComesBefore, Flow}
use Rattle.flow_graph.specs.declared.parts.Edge.{Edge}
use Rattle.loop_regions.specs.Regions.{AreNested, IsFirstFault, IsNoLaterPair, IsOnFreeCycle, IsSideAt}
use Rattle.loop_regions.specs.Ways.{AreAllJoined, AreWays, addresses_of}
use Rattle.loop_regions.specs.declared.fault.RegionFault.{RegionFault}
use Rattle.loop_regions.specs.declared.fault.RegionFault.TheVariants.{Memory}
use Rattle.loop_regions.specs.declared.nest.Entry.{Entry}
use Rattle.loop_regions.specs.declared.ways.Way.{Way}

-- what a nest is seen as: its regions, the addresses of the units, by whose places they are numbered, the edges inside
-- functions, and ranks of the units
pub record Numbered : Type 0 where
  pub regions : List Region
  pub addresses : List ℕ
  pub ways : List Way
  pub ranks : List ℕ

-- an edge may stand before another: it comes no later in the order of edges
abbrev pub NotBack : Edge → Edge → Type 0
NotBack one other = ComesBefore other one → ⊥

-- what each graph of code keeps: its lists rise, and edges inside functions and calls join its units
pub record IsWhole (g : Flow) : Type 0 where
  pub units : IsStrictlyIncreasing (addresses_of g.units)
  pub edges : AllPairs NotBack g.edges
  pub functions : IsStrictlyIncreasing g.functions
  pub joined : AreAllJoined (addresses_of g.units) g.edges

-- a graph is numbered, with these regions
pub record IsNumbered (g : Flow) (rs : List Region) (n : Numbered) : Type 0 where
  pub regions_are : n.regions ≡ rs
  pub addresses_are : n.addresses ≡ addresses_of g.units
  pub ways_are : AreWays n.addresses g.edges rs n.ways

-- regions nest in a graph: none crosses, each is entered at its header alone, and each cycle inside a function has an edge back
-- to a header
pub record IsNest (g : Flow) (n : Numbered) : Type 0 where
  pub numbered : IsNumbered g n.regions n
  pub nested : AreNested g n.regions
  pub acyclic : (u : ℕ) → IsOnFreeCycle g n.regions u → ⊥

-- no region is entered aside from its header, or this is the first entry that is, with the place of its region
abbrev pub IsEntry : Flow → List Region → Option Entry → Type 0
IsEntry g rs None = (k from to : ℕ) → IsSideAt g rs k from to → ⊥
IsEntry g rs (Some e) =
    (e.r < length rs) × IsSideAt g rs e.r e.from e.to × ((k from to : ℕ) → IsSideAt g rs k from to → (e.r < k) ⊎ ((e.r ≡ k) × IsNoLaterPair e.from e.to from to))

-- regions stand beside each other and are entered at their headers, or have this first fault
abbrev pub IsNestedAnswer : Flow → List Region → Result (Unit {0}) RegionFault → Type 0
IsNestedAnswer g rs (Ok done) = AreNested g rs
IsNestedAnswer g rs (Err fault) = IsFirstFault g rs fault

-- what comes of regions: their nest, or their first fault; where memory is wanting, that, but for crossings and side entries
abbrev pub IsAnswer : Flow → List Region → Result Numbered RegionFault → Type 0
IsAnswer g rs (Ok n) = (n.regions ≡ rs) × IsNest g n
IsAnswer g rs (Err Memory) = AreNested g rs
IsAnswer g rs (Err fault) = IsFirstFault g rs fault
