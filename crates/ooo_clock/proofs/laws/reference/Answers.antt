use Rattle.ooo_clock.proofs.Along.{cycles-stand, cycles-state}
use Rattle.ooo_clock.proofs.laws.reference.Goals as goal

pub returns-clause-state : goal.returns-clause-state
returns-clause-state c = cycles-state

pub returns-clause-stands : goal.returns-clause-stands
returns-clause-stands c = cycles-stand
