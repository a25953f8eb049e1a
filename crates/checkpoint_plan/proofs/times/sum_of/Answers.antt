use Rattle.std.proofs.Common.{arith}
use Rattle.checkpoint_plan.proofs.Sums.{summed_none, summed_next, summed_fits, summed_all}
use Rattle.checkpoint_plan.proofs.times.sum_of.Goals as goal

pub loop-bound-init : goal.loop-bound-init
loop-bound-init c = summed_none _

pub loop-bound-preserved : goal.loop-bound-preserved
loop-bound-preserved c =
    summed_next _ _ _ _ c.requires c.loop-bound-test.true c.from-sum.ensures c.loop-bound.invariant

pub overflow_add-sum : goal.overflow_add-sum
overflow_add-sum c =
    let fits = summed_fits _ _ _ c.requires (omega (arith, c.loop-bound-test.true)) (summed_next _ _ _ _ c.requires c.loop-bound-test.true c.from-sum.ensures c.loop-bound.invariant) in
    omega (arith, fits)

pub returns-clause-value : goal.returns-clause-value
returns-clause-value c =
    summed_all _ _ _ c.loop-bound.auto.bound-index-end c.loop-bound-test.false c.loop-bound.invariant

pub returns-clause-small : goal.returns-clause-small
returns-clause-small c =
    summed_fits _ _ _ c.requires c.loop-bound.auto.bound-index-end c.loop-bound.invariant
