use Rattle.flow_graph.specs.EdgeLists.{IsPointAmong, More}
use Rattle.flow_graph.proofs.returns.push_returns.Given as goal

abbrev pub invariant-loop-place : goal.invariant-loop-place
invariant-loop-place l = More l.initial.edges.items (IsPointAmong l.places l.functions l.returns l.reached l.place-index) l.edges.items
