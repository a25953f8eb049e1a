use Rattle.std.proofs.Common.{◌+◌}
use Rattle.path_wcet.specs.Known.{room, rooms}
use Rattle.path_wcet.proofs.Rounds.{AreRounding}
use Rattle.path_wcet.proofs.turns.rounds.Given as goal

abbrev pub invariant-loop : goal.invariant-loop
invariant-loop l = AreRounding l.table l.ways l.circuits l.fn.turns l.turns l.fn.rets l.rets

abbrev pub decreases-loop : goal.decreases-loop
decreases-loop l = room l.turns + rooms l.rets
