use Rattle.ooo_clock.proofs.Words.{cycle-within, in-flight-least}
use Rattle.ooo_clock.proofs.laws.in_flight.Goals as goal

pub returns-clause-within : goal.returns-clause-within
returns-clause-within c = cycle-within

pub returns-clause-least : goal.returns-clause-least
returns-clause-least c = in-flight-least
