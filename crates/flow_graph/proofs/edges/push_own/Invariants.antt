use Rattle.std.proofs.Common.{◌≡◌, ◌++◌}
use Rattle.flow_graph.specs.EdgeLists.{own_upto}
use Rattle.flow_graph.proofs.edges.push_own.Given as goal

abbrev pub invariant-loop-place : goal.invariant-loop-place
invariant-loop-place l = l.edges.items ≡ l.initial.edges.items ++ own_upto l.addresses l.net l.places l.place-index
