use Rattle.loop_regions.proofs.Graphs.{whole_graph}
use Rattle.loop_regions.proofs.laws.graphs_of_code_are_whole.Goals as goal

pub returns : goal.returns
returns c = whole_graph
