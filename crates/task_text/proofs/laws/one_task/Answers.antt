use Rattle.task_text.proofs.Unique.{one_task, task_refusal, task_or_refusal}
use Rattle.task_text.proofs.laws.one_task.Goals as goal

pub returns-clause-tasks : goal.returns-clause-tasks
returns-clause-tasks c = one_task

pub returns-clause-refusals : goal.returns-clause-refusals
returns-clause-refusals c = task_refusal

pub returns-clause-apart : goal.returns-clause-apart
returns-clause-apart c = task_or_refusal
