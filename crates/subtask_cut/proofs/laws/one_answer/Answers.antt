use Rattle.subtask_cut.proofs.Unique.{one_cutting, one_fault, one_kind}
use Rattle.subtask_cut.proofs.laws.one_answer.Goals as goal

pub returns : goal.returns
returns c = record { sub_tasks = one_cutting; faults = one_fault; apart = one_kind }
