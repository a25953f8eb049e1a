use Rattle.job_runner.proofs.Whole.{run_has, run_in_time}
use Rattle.job_runner.proofs.laws.run_has_all.Goals as goal

pub returns-clause-jobs : goal.returns-clause-jobs
returns-clause-jobs c = run_has

pub returns-clause-in_time : goal.returns-clause-in_time
returns-clause-in_time c = run_in_time
