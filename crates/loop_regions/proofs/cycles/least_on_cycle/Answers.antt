use Rattle.std.proofs.Common.{arith}
use Rattle.loop_regions.proofs.cycles.least_on_cycle.Goals as goal

pub returns : goal.returns
returns c = λ u less. c.loop-u.invariant u (omega arith)
