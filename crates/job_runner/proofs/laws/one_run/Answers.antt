use Rattle.job_runner.proofs.Once.{run_once}
use Rattle.job_runner.proofs.laws.one_run.Goals as goal

pub returns : goal.returns
returns c = run_once
