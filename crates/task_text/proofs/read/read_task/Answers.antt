use Rattle.task_text.proofs.KeepsLimits.{read_keeps}
use Rattle.task_text.proofs.Tracked.{read_is_task, read_is_only, read_is_fault}
use Rattle.task_text.proofs.read.read_task.Goals as goal

pub returns-clause-task : goal.returns-clause-task
returns-clause-task c = read_is_task c.args.bytes.now c.read_lines.result c.read_lines.ensures

pub returns-clause-only : goal.returns-clause-only
returns-clause-only c = read_is_only c.args.bytes.now c.read_lines.result c.read_lines.ensures

pub returns-clause-fault : goal.returns-clause-fault
returns-clause-fault c = read_is_fault c.args.bytes.now c.read_lines.result c.read_lines.ensures

pub returns-clause-limits : goal.returns-clause-limits
returns-clause-limits c = read_keeps c.args.bytes.now c.read_lines.result c.read_lines.ensures
