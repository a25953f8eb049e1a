use Rattle.admission.proofs.Conditions.{input_of, kept_of}
use Rattle.admission.proofs.analysis.facts_of.Goals as goal

pub check_facts-requires-clause-input : goal.check_facts-requires-clause-input
check_facts-requires-clause-input c =
    input_of c.args.task.now c.args.code.now c.args.entry c.args.g.now c.as_slice.result.now c.as_slice.ensures c.requires.limits c.requires.code c.requires.nested.has_graph

pub returns-in-Ok-clause-ok : goal.returns-in-Ok-clause-ok
returns-in-Ok-clause-ok c =
    kept_of c.args.task.now c.args.code.now c.args.entry c.args.g.now c.args.n.now c.as_slice.result.now c.opening_facts-opening.result c.in-Ok.p
    c.requires.nested c.as_slice.ensures c.opening_facts-opening.ensures.is c.in-Ok.ensures
