use Rattle.job_runner.proofs.FastJobs.{fast_runs}
use Rattle.job_runner.proofs.SimpleJobs.{simple_runs}
use Rattle.job_runner.proofs.laws.each_job_runs.Goals as goal

pub returns-clause-simple : goal.returns-clause-simple
returns-clause-simple c = simple_runs

pub returns-clause-fast : goal.returns-clause-fast
returns-clause-fast c = fast_runs
