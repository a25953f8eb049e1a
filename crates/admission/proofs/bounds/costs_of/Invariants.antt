use Rattle.admission.specs.Bounding.{AreCosts}
use Rattle.admission.proofs.bounds.costs_of.Given as goal

abbrev pub invariant-loop-k : goal.invariant-loop-k
invariant-loop-k l = AreCosts l.task l.g l.cuts l.pen l.k l.costs.items
