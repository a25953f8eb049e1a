use Rattle.visa_cli.proofs.PastCounts.{are_past}
use Rattle.visa_cli.proofs.stages.jobs_of.Goals as goal

pub returns-in-Ok-clause-past : goal.returns-in-Ok-clause-past
returns-in-Ok-clause-past c = are_past c.args.bytes.now c.args.task.now c.in-Ok.jobs c.in-Ok.ensures.jobs
