use Rattle.task_text.proofs.JobInputs.{read_inputs}
use Rattle.task_text.proofs.JobsWalks.{read_is_jobs, read_is_only, read_is_fault}
use Rattle.task_text.proofs.jobs_read.read_jobs.Goals as goal

pub returns-clause-jobs : goal.returns-clause-jobs
returns-clause-jobs c = read_is_jobs c.args.task.now c.args.bytes.now c.read_lines.result c.read_lines.ensures

pub returns-clause-only : goal.returns-clause-only
returns-clause-only c = read_is_only c.args.task.now c.args.bytes.now c.read_lines.result c.read_lines.ensures

pub returns-clause-fault : goal.returns-clause-fault
returns-clause-fault c = read_is_fault c.args.task.now c.args.bytes.now c.read_lines.result c.read_lines.ensures

pub returns-clause-inputs : goal.returns-clause-inputs
returns-clause-inputs c = read_inputs c.args.task.now c.args.bytes.now c.read_lines.result c.read_lines.ensures
