use Rattle.std.proofs.Common.{arith}
use Rattle.admission.proofs.Needed.{rest_small}
use Rattle.admission.proofs.deciding.rest_ps.Goals as goal

pub returns-clause-small : goal.returns-clause-small
returns-clause-small c = let small = rest_small c.args.bounds.now c.args.period_ps c.requires.bounds c.requires.period in omega (arith, small, c.rem.ensures)
