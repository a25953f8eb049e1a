use Rattle.std.proofs.Common.{◌≡◌, ◌++◌, map, take}
use Rattle.flow_graph.specs.EdgeLists.{return_edge}
use Rattle.flow_graph.proofs.returns.push_edges.Given as goal

abbrev pub invariant-loop-from : goal.invariant-loop-from
invariant-loop-from l = l.edges.items ≡ l.initial.edges.items ++ map (return_edge l.to) (take l.from-index l.returns)
