use Rattle.task_text.proofs.TaskParts.{last_is}
use Rattle.task_text.proofs.task_parts.last_of.Goals as goal

pub returns-in-len1-up : goal.returns-in-len1-up
returns-in-len1-up c = last_is c.args.points.now
