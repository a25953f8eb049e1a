use Rattle.subtask_cut.proofs.Order.{in_order}
use Rattle.subtask_cut.proofs.laws.walks_meet_cuts_in_order.Goals as goal

pub returns : goal.returns
returns c = in_order
