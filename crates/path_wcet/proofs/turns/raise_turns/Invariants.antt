use Rattle.path_wcet.proofs.Rounds.{AreRaising}
use Rattle.path_wcet.proofs.turns.raise_turns.Given as goal

abbrev pub invariant-loop-c : goal.invariant-loop-c
invariant-loop-c l = AreRaising l.table l.fn.turns l.turns l.rets l.circuits l.changed l.c-index
