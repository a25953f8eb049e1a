use Rattle.covered_fetches.proofs.Joining.{graph_follows}
use Rattle.covered_fetches.proofs.laws.a_graph_follows_its_blocks.Goals as goal

pub returns : goal.returns
returns c = graph_follows
