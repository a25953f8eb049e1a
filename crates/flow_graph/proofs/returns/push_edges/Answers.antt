use Rattle.std.proofs.Common.{ℕ, List, ◌++◌, ◌∙◌, ap, map}
use Rattle.flow_graph.specs.EdgeLists.{return_edge}
use Rattle.flow_graph.proofs.Members.{take_all}
use Rattle.flow_graph.proofs.returns.push_edges.Goals as goal

pub returns : goal.returns
returns c = c.loop-from.invariant ∙ ap (λ (l : List ℕ). c.args.edges.now.items ++ map (return_edge c.args.to) l) (take_all c.args.returns.now c.loop-from.from-index c.loop-from-test.false)
