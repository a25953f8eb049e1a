use Rattle.std.proofs.Common.{arith}
use Rattle.path_wcet.proofs.Rooms.{room_set}
use Rattle.path_wcet.proofs.lists.raise.Goals as goal

pub returns-clause-less : goal.returns-clause-less
returns-clause-less c = λ is. room_set c.args.xs.now c.args.u c.args.v c.requires (omega (arith, c.if-v-xs.false)) (let h = c.ranges.v in omega (arith, h))
