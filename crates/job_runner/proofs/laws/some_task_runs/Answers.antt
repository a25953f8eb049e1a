use Rattle.job_runner.proofs.Example.{some_run}
use Rattle.job_runner.proofs.laws.some_task_runs.Goals as goal

pub returns : goal.returns
returns c = some_run
