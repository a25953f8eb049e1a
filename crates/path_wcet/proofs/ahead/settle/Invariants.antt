use Rattle.path_wcet.specs.Known.{rooms}
use Rattle.path_wcet.proofs.Tries.{IsSettling}
use Rattle.path_wcet.proofs.ahead.settle.Given as goal

abbrev pub invariant-loop-changed : goal.invariant-loop-changed
invariant-loop-changed l = IsSettling l.table l.to l.turns l.rets l.ways l.base l.fn.xs l.xs l.changed

abbrev pub decreases-loop-changed : goal.decreases-loop-changed
decreases-loop-changed l = rooms l.xs
