use Rattle.subtask_cut.proofs.Passed.{passed}
use Rattle.subtask_cut.proofs.laws.sub_tasks_are_passed.Goals as goal

pub returns : goal.returns
returns c = passed
