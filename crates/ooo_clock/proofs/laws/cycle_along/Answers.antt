use Rattle.ooo_clock.proofs.Along.{cycle-along}
use Rattle.ooo_clock.proofs.laws.cycle_along.Goals as goal

pub returns : goal.returns
returns c = cycle-along
