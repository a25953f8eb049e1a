use Rattle.admission.proofs.Conditions.{whole_of}
use Rattle.admission.proofs.analysis.nest_of.Goals as goal

pub check_regions-requires-clause-whole : goal.check_regions-requires-clause-whole
check_regions-requires-clause-whole c = whole_of c.args.task.now c.args.code.now c.args.entry c.args.g.now c.requires.graph
