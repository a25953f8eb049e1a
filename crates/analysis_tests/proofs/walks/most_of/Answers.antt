use Rattle.std.proofs.Common.{sym, subst}
use Rattle.path_wcet.specs.Longest.{AreCounted}
use Rattle.path_wcet.proofs.Graphs.{calls_graph, whole_graph}
use Rattle.admission.proofs.Grounds.{rising}
use Rattle.admission.proofs.Limits.{counted}
use Rattle.analysis_tests.proofs.Found.{entry_among, entry_opens}
use Rattle.analysis_tests.proofs.walks.most_of.Goals as goal

pub charge-requires-clause-rising : goal.charge-requires-clause-rising
charge-requires-clause-rising c = rising c.args.given.now.code 0x400000 c.args.found.now.graph c.requires.graph

pub longest-requires-clause-whole : goal.longest-requires-clause-whole
longest-requires-clause-whole c = whole_graph c.args.given.now.code 0x400000 c.args.found.now.graph c.requires.graph

pub longest-requires-clause-calls : goal.longest-requires-clause-calls
longest-requires-clause-calls c = calls_graph c.args.given.now.code 0x400000 c.args.found.now.graph c.requires.graph

pub longest-requires-clause-counted : goal.longest-requires-clause-counted
longest-requires-clause-counted c = subst AreCounted (sym c.requires.regions) (counted c.args.given.now.task c.requires.limits)

pub longest-requires-clause-among : goal.longest-requires-clause-among
longest-requires-clause-among c = entry_among c.args.given.now.code 0x400000 c.args.found.now.graph c.args.found.now.nest c.requires.graph c.requires.nest

pub longest-requires-clause-opening : goal.longest-requires-clause-opening
longest-requires-clause-opening c = entry_opens c.args.given.now.code 0x400000 c.args.found.now.graph c.args.found.now.nest c.requires.graph c.requires.nest
