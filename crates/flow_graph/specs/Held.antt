-- How a graph is kept: the units of functions lie in one list of addresses.
use Rattle.std.specs.Prelude.{ℕ, ◌≤◌, ◌≡◌, ◌-◌, List, map, take, drop, length, All}
use Rattle.std.specs.List.Sorted.{IsStrictlyIncreasing}
use Rattle.flow_graph.specs.Flow.{Flow}
use Rattle.flow_graph.specs.declared.view.Place.{Place}
use Rattle.flow_graph.specs.declared.view.Graph.TheInside.{Inside}

-- what lies at a place
abbrev pub part_at : List ℕ → Place → List ℕ
part_at addresses place = take (place.end - place.start) (drop place.start addresses)

abbrev pub flow_of : Inside → Flow
flow_of g = record {
  entry = g.entry;
  units = g.units.items;
  edges = g.edges.items;
  functions = g.functions.items;
  function_units = map (part_at g.addresses.items) g.places.items;
  blocks = g.blocks.items;
}

-- a place lies among so many addresses
pub record IsWithin (count : ℕ) (place : Place) : Type 0 where
  pub ordered : place.start ≤ place.end
  pub within : place.end ≤ count

-- units rise, and each function has its place
pub record IsHeld (g : Inside) : Type 0 where
  pub units : IsStrictlyIncreasing (map (λ unit. unit.at) g.units.items)
  pub beside : length g.places.items ≡ length g.functions.items
  pub within : All (IsWithin (length g.addresses.items)) g.places.items
