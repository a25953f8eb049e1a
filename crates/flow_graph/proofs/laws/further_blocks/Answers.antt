use Rattle.flow_graph.proofs.Unique.{with_blocks, blocks_with}
use Rattle.flow_graph.proofs.laws.further_blocks.Goals as goal

pub returns : goal.returns
returns c = record { graph = with_blocks; blocks = blocks_with }
