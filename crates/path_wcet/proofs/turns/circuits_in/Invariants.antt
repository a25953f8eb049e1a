use Rattle.path_wcet.proofs.Rounds.{AreMaking}
use Rattle.path_wcet.proofs.turns.circuits_in.Given as goal

abbrev pub invariant-loop-r : goal.invariant-loop-r
invariant-loop-r l = AreMaking l.n l.regions l.circuits.items l.r-index
