use Rattle.job_runner.proofs.Runnable.{admitted_runs}
use Rattle.job_runner.proofs.laws.an_admitted_task_runs.Goals as goal

pub returns : goal.returns
returns c = admitted_runs
