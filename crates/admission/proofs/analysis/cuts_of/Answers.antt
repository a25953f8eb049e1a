use Rattle.subtask_cut.proofs.Passed.{functions_of}
use Rattle.admission.proofs.Conditions.{cuts_passed, cuts_refused, own_of, whole_of}
use Rattle.admission.proofs.analysis.cuts_of.Goals as goal

pub check_cuts-requires-clause-whole : goal.check_cuts-requires-clause-whole
check_cuts-requires-clause-whole c = whole_of c.args.task.now c.args.code.now c.args.entry c.args.g.now c.requires.counted.kept.nested.has_graph

pub check_cuts-requires-clause-functions : goal.check_cuts-requires-clause-functions
check_cuts-requires-clause-functions c =
    functions_of c.args.code.now c.args.g.now.entry c.args.g.now (own_of c.args.task.now c.args.code.now c.args.entry c.args.g.now c.requires.counted.kept.nested.has_graph)

pub returns-in-Ok-clause-ok : goal.returns-in-Ok-clause-ok
returns-in-Ok-clause-ok c =
    cuts_passed c.args.task.now c.args.code.now c.args.entry c.args.g.now c.args.n.now c.args.p.now c.as_slice.result.now c.in-Ok.cuts c.requires.counted c.as_slice.ensures c.in-Ok.ensures

pub returns-in-Err-clause-refused : goal.returns-in-Err-clause-refused
returns-in-Err-clause-refused c =
    cuts_refused c.args.task.now c.args.code.now c.args.entry c.args.g.now c.args.n.now c.args.p.now c.as_slice.result.now c.in-Err.fault c.cut_refusal.result c.requires.counted
    c.as_slice.ensures c.cut_refusal.ensures c.in-Err.ensures
