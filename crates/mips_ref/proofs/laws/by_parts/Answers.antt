use Rattle.mips_ref.proofs.Steps.{exits_if, exits_there, step-retires}
use Rattle.mips_ref.proofs.laws.by_parts.Goals as goal

pub returns-clause-retire : goal.returns-clause-retire
returns-clause-retire c = step-retires

pub returns-clause-exits : goal.returns-clause-exits
returns-clause-exits c = exits_if

pub returns-clause-exited : goal.returns-clause-exited
returns-clause-exited c = exits_there
