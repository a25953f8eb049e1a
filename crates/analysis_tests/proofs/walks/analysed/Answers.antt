use Rattle.path_wcet.proofs.Graphs.{whole_graph}
use Rattle.analysis_tests.proofs.Found.{made_graph}
use Rattle.analysis_tests.proofs.walks.analysed.Goals as goal

pub check_regions-requires-clause-whole : goal.check_regions-requires-clause-whole
check_regions-requires-clause-whole c = whole_graph c.args.given.now.code 0x400000 c.in-Ok.graph (made_graph c.args.given.now.code 0x400000 c.in-Ok.graph c.in-Ok.ensures.flow)

pub returns-clause-graph : goal.returns-clause-graph
returns-clause-graph c = made_graph c.args.given.now.code 0x400000 c.in-Ok.graph c.in-Ok.ensures.flow
