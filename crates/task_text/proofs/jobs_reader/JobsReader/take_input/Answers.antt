use Rattle.task_text.proofs.JobsLaws.{input_too_long}
use Rattle.task_text.proofs.jobs_reader.JobsReader.take_input.Goals as goal

pub returns-else-h-task : goal.returns-else-h-task
returns-else-h-task c = input_too_long c.args.task.now c.args.self.now c.args.h.now c.requires c.if-h-task.false
