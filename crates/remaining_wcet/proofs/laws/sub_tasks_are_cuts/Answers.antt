use Rattle.remaining_wcet.proofs.Cutting.{cutting}
use Rattle.remaining_wcet.proofs.laws.sub_tasks_are_cuts.Goals as goal

pub returns : goal.returns
returns c = cutting
