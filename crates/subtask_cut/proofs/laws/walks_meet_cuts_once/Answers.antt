use Rattle.subtask_cut.proofs.Once.{once}
use Rattle.subtask_cut.proofs.laws.walks_meet_cuts_once.Goals as goal

pub returns : goal.returns
returns c = once
