-- The greatest cost of the legal walks that stop where they come to a unit. This project's own.
use Rattle.std.specs.Prelude.{ℕ, ◌+◌, ◌≤◌, ◌<◌, ◌≡◌, ◌⊎◌, min, Bool, true, Option, Some, None, List, ◌∷◌, Contains, map, length, slice_index}
use Rattle.std.specs.List.{All}
use Rattle.mips_isa.specs.Kinds.{kind_of}
use Rattle.mips_isa.specs.declared.instr.Kind.TheVariants as kind
use Rattle.visa_io.specs.declared.records.Region.{Region}
use Rattle.flow_graph.specs.Edges.{edge_of}
use Rattle.flow_graph.specs.Flow.{Flow}
use Rattle.flow_graph.specs.Reached.{is_inner}
use Rattle.flow_graph.specs.declared.parts.Edge.{Edge}
use Rattle.flow_graph.specs.declared.parts.EdgeKind.TheVariants.{Next, Taken, Call, Return, Over}
use Rattle.flow_graph.specs.declared.parts.Unit.{Unit as FlowUnit}
use Rattle.loop_regions.specs.Costs.{Prices, unit_cost, walk_cost}
use Rattle.loop_regions.specs.Nested.{Numbered}
use Rattle.loop_regions.specs.Walks.{IsWalk, LoopGraph, Meets, alone, holds}
use Rattle.path_wcet.specs.declared.costs.Costs.{Costs}
use Rattle.path_wcet.specs.declared.costs.Pen.{Pen}
use Rattle.path_wcet.specs.Known.{Table}
use Rattle.path_wcet.specs.Paid.{cap}
use Rattle.path_wcet.specs.Static.{edge_price, unit_price}
use Rattle.path_wcet.specs.Tables.{edge_entry, first_entry, unit_entry}
use Rattle.path_wcet.specs.Paths.{AreCounts}

-- the units of the function that begins at a unit: reached from there along edges inside functions
pub data IsOf (g : Flow) (f : ℕ) : ℕ → Type 0 where
  First : IsOf g f f
  Further : (e : Edge) → Contains g.edges e → is_inner e.kind ≡ true → IsOf g f e.from → IsOf g f e.to

-- what each graph of code keeps of calls: each has an edge over it to its return point, a unit calls one function at most, what is
-- called is a function, returns are where return instructions stand, each of a function that is called goes back to the call, and
-- units are reached from where functions begin
pub record AreCalls (g : Flow) : Type 0 where
  pub points : (o : Edge) → Contains g.edges o → o.kind ≡ Over → o.to ≡ o.from + 8
  pub over : (c : Edge) → Contains g.edges c → c.kind ≡ Call → Contains g.edges (edge_of c.from (c.from + 8) Over)
  pub one : (c d : Edge) → Contains g.edges c → Contains g.edges d → c.kind ≡ Call → d.kind ≡ Call → c.from ≡ d.from → c.to ≡ d.to
  pub functions : (c : Edge) → Contains g.edges c → c.kind ≡ Call → Contains g.functions c.to
  pub returns : (b : Edge) → Contains g.edges b → b.kind ≡ Return → (unit : FlowUnit) × Contains g.units unit × (unit.at ≡ b.from) × (kind_of unit.first ≡ kind.Return)
  pub back : (c : Edge) → Contains g.edges c → c.kind ≡ Call → (unit : FlowUnit) → Contains g.units unit → kind_of unit.first ≡ kind.Return → IsOf g c.to unit.at → Contains g.edges (edge_of unit.at (c.from + 8) Return)
  pub reached : (unit : FlowUnit) → Contains g.units unit → (f : ℕ) × Contains g.functions f × IsOf g f unit.at

-- the graph with the regions of a nest; which units have a slot
abbrev pub graph_with : Flow → Numbered → (ℕ → Bool) → LoopGraph
graph_with g n is_long = record { edges = g.edges; regions = n.regions; is_long = is_long }

-- prices of instructions and edges at which each unit costs at most its static cost with each fetch charged, and each edge its own
pub record IsPriced (g : Flow) (costs : Costs) (p : Prices) (charged is_long : ℕ → Bool) : Type 0 where
  pub units : (unit : FlowUnit) → Contains g.units unit → unit_cost p charged (is_long unit.at) unit.at ≤ unit_price unit costs
  pub edges : (e : Edge) → Contains g.edges e → p.edge e ≤ edge_price g.units e

-- a walk doesn't come to the unit where it would stop
abbrev pub IsMissed : Option ℕ → List Edge → Type 0
IsMissed None es = Unit {0}
IsMissed (Some to) es = Meets to es → ⊥

-- an edge goes there
abbrev pub IsInto : Option ℕ → Edge → Type 0
IsInto None e = ⊥
IsInto (Some to) e = e.to ≡ to

-- prices at which each unit costs just its static cost with each fetch charged, and each edge its own
pub record IsPricedExactly (g : Flow) (costs : Costs) (p : Prices) (charged is_long : ℕ → Bool) : Type 0 where
  pub units : (unit : FlowUnit) → Contains g.units unit → unit_cost p charged (is_long unit.at) unit.at ≡ unit_price unit costs
  pub edges : (e : Edge) → Contains g.edges e → p.edge e ≡ edge_price g.units e

-- no legal walk from a unit costs more: neither one that doesn't come to the unit where it stops, nor, with the edge, one that does
pub record AreMost (p : Prices) (charged : ℕ → Bool) (h : LoopGraph) (from : ℕ) (to : Option ℕ) (most : ℕ) : Type 0 where
  pub inside : (es : List Edge) → IsWalk h (alone from) es → IsMissed to es → walk_cost p charged h from es ≤ most
  pub into : (e : Edge) (es : List Edge) → IsWalk h (alone from) (e ∷ es) → IsMissed to es → IsInto to e → p.edge e + walk_cost p charged h from es ≤ most

-- the same below the cap, whatever prices are meant
abbrev pub IsBound : Flow → Numbered → Costs → ℕ → Option ℕ → ℕ → Type 0
IsBound g n costs from to most =
    (p : Prices) (charged is_long : ℕ → Bool) → IsPriced g costs p charged is_long → most < cap → AreMost p charged (graph_with g n is_long) from to most

-- a legal walk from a unit that doesn't come to the unit where it stops costs this
pub record IsCostInside (p : Prices) (charged : ℕ → Bool) (h : LoopGraph) (from : ℕ) (to : Option ℕ) (cost : ℕ) : Type 0 where
  pub edges : List Edge
  pub walk : IsWalk h (alone from) edges
  pub missed : IsMissed to edges
  pub is : cost ≡ walk_cost p charged h from edges

-- and one that comes there, with the edge
pub record IsCostInto (p : Prices) (charged : ℕ → Bool) (h : LoopGraph) (from : ℕ) (to : Option ℕ) (cost : ℕ) : Type 0 where
  pub newest : Edge
  pub edges : List Edge
  pub walk : IsWalk h (alone from) (newest ∷ edges)
  pub missed : IsMissed to edges
  pub into : IsInto to newest
  pub is : cost ≡ p.edge newest + walk_cost p charged h from edges

-- some legal walk costs so much, up to the cap
pub record IsCost (p : Prices) (charged : ℕ → Bool) (h : LoopGraph) (from : ℕ) (to : Option ℕ) (most : ℕ) : Type 0 where
  pub cost : ℕ
  pub walks : IsCostInside p charged h from to cost ⊎ IsCostInto p charged h from to cost
  pub is : most ≡ min cap cost

-- at whatever prices each unit and edge costs just its static cost
abbrev pub IsAttained : Flow → Numbered → Costs → ℕ → Option ℕ → ℕ → Type 0
IsAttained g n costs from to most = (p : Prices) (charged is_long : ℕ → Bool) → IsPricedExactly g costs p charged is_long → IsCost p charged (graph_with g n is_long) from to most

-- the greatest cost of a legal walk from a unit, up to the cap: no walk costs more where it is below the cap, and some walk costs so
-- much
pub record IsLongest (g : Flow) (n : Numbered) (costs : Costs) (from : ℕ) (to : Option ℕ) (most : ℕ) : Type 0 where
  pub bound : IsBound g n costs from to most
  pub attained : IsAttained g n costs from to most

-- each region is gone round once or more often
abbrev pub AreCounted : List Region → Type 0
AreCounted rs = All (λ r. 1 ≤ r.count) rs

-- an operating point at which no instruction costs many cycles
pub record IsSmallPen (pen : Pen) : Type 0 where
  pub m : pen.m ≤ 100000
  pub w : pen.w ≤ 100000
  pub mul : pen.mul ≤ 32
  pub div : pen.div ≤ 64

-- a walk may begin at this unit: it lies in no region aside from its header
abbrev pub IsOpening : Numbered → ℕ → Type 0
IsOpening n from = (r : Region) → Contains n.regions r → holds r from ≡ true → from ≡ r.header

-- the unit where walks stop, by its number
abbrev pub IsLast : List ℕ → Option ℕ → Option ℕ → Type 0
IsLast addresses None o = o ≡ None
IsLast addresses (Some a) o = (k : ℕ) × (o ≡ Some k) × (k < length addresses) × (slice_index addresses k ≡ a)

-- a table is that of the graph
pub record IsTableOf (g : Flow) (n : Numbered) (costs : Costs) (to : Option ℕ) (t : Table) : Type 0 where
  pub units : t.units ≡ map (unit_entry costs to) g.units
  pub next : t.next ≡ map (edge_entry Next) g.units
  pub taken : t.taken ≡ map (edge_entry Taken) g.units
  pub counts : AreCounts n t.counts
  pub ends : t.ends ≡ map (first_entry to) g.units
  pub last : IsLast n.addresses to t.last

abbrev pub IsAmong : List ℕ → Option ℕ → Type 0
IsAmong addresses None = Unit {0}
IsAmong addresses (Some a) = Contains addresses a
