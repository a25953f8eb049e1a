-- The edges inside functions, with the numbers of the units that they join. This project's own.
use Rattle.std.specs.Prelude.{ℕ, ◌<◌, ◌≡◌, ◌⊎◌, Bool, true, false, ◌&&◌, ◌==◌, Option, Some, None, List, Contains, map, length, slice_index}
use Rattle.std.specs.List.{All, filter}
use Rattle.visa_io.specs.declared.records.Region.{Region}
use Rattle.flow_graph.specs.Edges.{edge_of}
use Rattle.flow_graph.specs.Reached.{is_inner}
use Rattle.flow_graph.specs.declared.parts.Edge.{Edge}
use Rattle.flow_graph.specs.declared.parts.EdgeKind.TheVariants.{Next, Taken, Call, Return, Over}
use Rattle.flow_graph.specs.declared.parts.EdgeKind.{EdgeKind}
use Rattle.flow_graph.specs.declared.parts.Unit.{Unit as FlowUnit}
use Rattle.loop_regions.specs.Walks.{holds}
use Rattle.loop_regions.specs.Regions.{is_back}
use Rattle.loop_regions.specs.declared.ways.Way.{Way}

abbrev pub addresses_of : List FlowUnit → List ℕ
addresses_of units = map (λ unit. unit.at) units

abbrev pub goes_back : Edge → Region → Bool
goes_back e r = (e.to == r.header) && holds r e.from

abbrev pub is_inner_edge : Edge → Bool
is_inner_edge e = is_inner e.kind

-- the edges inside functions
abbrev pub inner_edges : List Edge → List Edge
inner_edges edges = filter is_inner_edge edges

-- an edge joins two of these units
pub record AreJoined (addresses : List ℕ) (e : Edge) : Type 0 where
  pub leaves : Contains addresses e.from
  pub enters : Contains addresses e.to

-- the number of the unit where the function begins that a unit calls; none where it calls none
abbrev pub IsCalleeOf : List ℕ → List Edge → ℕ → Option ℕ → Type 0
IsCalleeOf addresses edges unit None = (f : ℕ) → Contains edges (edge_of unit f Call) → ⊥
IsCalleeOf addresses edges unit (Some k) = (k < length addresses) × Contains edges (edge_of unit (slice_index addresses k) Call)

-- what is recorded of an edge inside a function
pub record IsWay (addresses : List ℕ) (edges : List Edge) (rs : List Region) (w : Way) : Type 0 where
  pub leaves : slice_index addresses w.from ≡ w.edge.from
  pub leaves_in : w.from < length addresses
  pub enters : slice_index addresses w.to ≡ w.edge.to
  pub enters_in : w.to < length addresses
  pub back : w.back ≡ is_back rs w.edge
  pub callee : w.edge.kind ≡ Over → IsCalleeOf addresses edges w.edge.from w.callee

-- these are the edges inside functions, in order
pub record AreWays (addresses : List ℕ) (edges : List Edge) (rs : List Region) (ways : List Way) : Type 0 where
  pub edges_are : map (λ w. w.edge) ways ≡ inner_edges edges
  pub each : All (IsWay addresses edges rs) ways

-- the edge of this number joins two of these units, if it lies inside a function or is a call
abbrev pub AreAllJoined : List ℕ → List Edge → Type 0
AreAllJoined addresses edges = (e : Edge) → Contains edges e → (is_inner e.kind ≡ true) ⊎ (e.kind ≡ Call) → AreJoined addresses e

abbrev pub is_call_kind : EdgeKind → Bool
is_call_kind Call = true
is_call_kind Next = false
is_call_kind Taken = false
is_call_kind Return = false
is_call_kind Over = false

abbrev pub is_over_kind : EdgeKind → Bool
is_over_kind Over = true
is_over_kind Next = false
is_over_kind Taken = false
is_over_kind Return = false
is_over_kind Call = false

abbrev pub calls_from : ℕ → Edge → Bool
calls_from unit e = (e.from == unit) && is_call_kind e.kind

-- the function that a unit calls, if any
abbrev pub IsCalled : List Edge → ℕ → Option ℕ → Type 0
IsCalled edges unit None = (f : ℕ) → Contains edges (edge_of unit f Call) → ⊥
IsCalled edges unit (Some f) = Contains edges (edge_of unit f Call)
