use Rattle.flow_graph.proofs.Unique.{graph_one, flow_one, blocks_one}
use Rattle.flow_graph.proofs.laws.one_graph.Goals as goal

pub returns : goal.returns
returns c = record { graph = graph_one; answer = flow_one; blocks = blocks_one }
