use Rattle.subtask_cut.proofs.Passed.{functions_of}
use Rattle.subtask_cut.proofs.laws.graphs_of_code_have_functions.Goals as goal

pub returns : goal.returns
returns c = functions_of
