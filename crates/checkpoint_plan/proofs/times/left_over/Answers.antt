use Rattle.std.proofs.Common.{◌+◌, ◌*◌}
use Rattle.checkpoint_plan.specs.Plan.{rem_of}
use Rattle.checkpoint_plan.proofs.times.left_over.Goals as goal

pub returns-clause-value : goal.returns-clause-value
unfolding rem_of
returns-clause-value c = λ i. (5 + c.sum_of.ensures.value i) * c.from.ensures i
