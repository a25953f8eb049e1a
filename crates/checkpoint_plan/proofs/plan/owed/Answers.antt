use Rattle.checkpoint_plan.proofs.Rems.{owed_parts}
use Rattle.checkpoint_plan.proofs.plan.owed.Goals as goal

pub returns : goal.returns
returns c = owed_parts _ _ _ _ _ _ _ c.from.ensures c.overhead.ensures.value c.left_over.ensures.value
