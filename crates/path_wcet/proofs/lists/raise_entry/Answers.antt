use Rattle.std.proofs.Common.{refl}
use Rattle.path_wcet.proofs.Rooms.{rooms_set, still}
use Rattle.path_wcet.proofs.lists.raise_entry.Goals as goal

pub returns-clause-less : goal.returns-clause-less
returns-clause-less c = λ is. rooms_set c.args.xs.now c.args.u c.args.v _ c.requires (c.if-is_far.ensures.near refl)

pub returns-clause-still : goal.returns-clause-still
returns-clause-still c = still c.args.xs.now c.args.u c.args.v _ c.requires (c.if-is_far.ensures.near refl)
