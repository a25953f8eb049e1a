use Rattle.std.proofs.Common.{◌≡◌, ℕ, ◌<◌, false}
use Rattle.std.specs.Prelude.{slice_index_or}
use Rattle.flow_graph.specs.declared.parts.Edge.{Edge}
use Rattle.loop_regions.specs.Regions.{is_aside}
use Rattle.loop_regions.proofs.crossing.first_edge_aside.Given as goal

abbrev pub invariant-loop-e : goal.invariant-loop-e
invariant-loop-e l = (k : ℕ) (d : Edge) → k < l.e-index → is_aside l.r (slice_index_or l.edges k d) ≡ false
