use Rattle.std.proofs.Common.{sym, subst}
use Rattle.checkpoint_plan.specs.Limits.{IsPeriod}
use Rattle.admission.proofs.Needed.{fastest_period}
use Rattle.admission.proofs.deciding.fastest_ps.Goals as goal

pub returns-clause-period : goal.returns-clause-period
returns-clause-period c = subst IsPeriod (sym c.fastest_ps.ensures) (fastest_period c.args.task.now c.requires)
