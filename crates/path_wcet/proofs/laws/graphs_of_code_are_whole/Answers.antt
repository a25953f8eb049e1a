use Rattle.path_wcet.proofs.Graphs.{calls_graph, whole_graph}
use Rattle.path_wcet.proofs.laws.graphs_of_code_are_whole.Goals as goal

pub returns : goal.returns
returns c = record { whole = whole_graph; calls = calls_graph }
