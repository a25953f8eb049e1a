use Rattle.ooo_clock.proofs.Along.{cycle-stands}
use Rattle.ooo_clock.proofs.Performs.{cycle-performs}
use Rattle.ooo_clock.proofs.laws.events_of_a_cycle.Goals as goal

pub returns-clause-performs : goal.returns-clause-performs
returns-clause-performs c = λ s p q. (cycle-performs s p q).is

pub returns-clause-stands : goal.returns-clause-stands
returns-clause-stands c = cycle-stands
