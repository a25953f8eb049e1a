use Rattle.range_facts.proofs.Left.{left_leaves_at}
use Rattle.range_facts.proofs.strided.refine.Goals as goal

pub returns-clause-left : goal.returns-clause-left
returns-clause-left c = left_leaves_at c.args.fact c.args.c c.left.result c.requires c.left.ensures
