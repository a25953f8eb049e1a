use Rattle.path_wcet.proofs.Tries.{IsSweeping}
use Rattle.path_wcet.proofs.ahead.sweep.Given as goal

abbrev pub invariant-loop-w : goal.invariant-loop-w
invariant-loop-w l = IsSweeping l.table l.to l.turns l.rets l.ways l.base l.fn.xs l.xs l.changed l.w-index
