use Rattle.checkpoint_plan.proofs.Sums.{IsSummed}
use Rattle.checkpoint_plan.proofs.times.sum_of.Given as goal

abbrev pub invariant-loop-bound : goal.invariant-loop-bound
invariant-loop-bound l = IsSummed l.bounds l.bound-index l.sum
