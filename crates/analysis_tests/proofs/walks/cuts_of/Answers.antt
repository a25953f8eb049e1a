use Rattle.path_wcet.proofs.Graphs.{whole_graph}
use Rattle.subtask_cut.proofs.Passed.{functions_of}
use Rattle.analysis_tests.proofs.walks.cuts_of.Goals as goal

pub check_cuts-requires-clause-whole : goal.check_cuts-requires-clause-whole
check_cuts-requires-clause-whole c = whole_graph c.args.given.now.code 0x400000 c.args.found.now.graph c.requires.graph

pub check_cuts-requires-clause-functions : goal.check_cuts-requires-clause-functions
check_cuts-requires-clause-functions c = functions_of c.args.given.now.code 0x400000 c.args.found.now.graph c.requires.graph
