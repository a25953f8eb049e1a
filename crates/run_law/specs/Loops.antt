-- The graph with regions along which walks go, of a graph of code. This project's own.
use Rattle.std.specs.Prelude.{◌&&◌, ◌==◌, List}
use Rattle.std.specs.List.{list_any}
use Rattle.visa_io.specs.declared.records.Region.{Region}
use Rattle.flow_graph.specs.Flow.{Flow}
use Rattle.loop_regions.specs.Walks.{LoopGraph}

-- all edges, the regions, and the units that have a slot: they take eight bytes
abbrev pub loops_of : Flow → List Region → LoopGraph
loops_of g regions = record {
  edges = g.edges;
  regions = regions;
  is_long = λ u. list_any (λ unit. (unit.at == u) && (unit.length == 8)) g.units;
}
