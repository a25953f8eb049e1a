use Rattle.admission.proofs.Conditions.{input_of, loop_refused, one_counted}
use Rattle.admission.proofs.analysis.check_one.Goals as goal

pub check_count-requires-clause-input : goal.check_count-requires-clause-input
check_count-requires-clause-input c =
    input_of c.args.task.now c.args.code.now c.args.entry c.args.g.now c.as_slice.result.now c.as_slice.ensures c.requires.limits c.requires.code c.requires.before.kept.nested.has_graph

pub returns-in-Ok-clause-ok : goal.returns-in-Ok-clause-ok
returns-in-Ok-clause-ok c =
    one_counted c.args.task.now c.args.code.now c.args.entry c.args.g.now c.args.n.now c.args.k c.as_slice.result.now c.args.p.now c.check_count.new.p c.requires.before
    c.requires.region c.as_slice.ensures c.check_count.ensures.same c.check_count.ensures.proved c.in-Ok.ensures.answer

pub returns-in-Err-clause-refused : goal.returns-in-Err-clause-refused
returns-in-Err-clause-refused c =
    loop_refused c.args.task.now c.args.code.now c.args.entry c.args.g.now c.args.n.now c.args.k c.as_slice.result.now c.args.p.now c.requires.before
    c.requires.region c.as_slice.ensures c.in-Err.fault c.in-Err.ensures.answer
