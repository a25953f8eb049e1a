use Rattle.job_runner.proofs.FastJobs.{fast_in_time_once}
use Rattle.job_runner.proofs.SimpleJobs.{simple_in_time_once}
use Rattle.job_runner.proofs.laws.every_job_is_in_time.Goals as goal

pub returns-clause-simple : goal.returns-clause-simple
returns-clause-simple c = simple_in_time_once

pub returns-clause-fast : goal.returns-clause-fast
returns-clause-fast c = fast_in_time_once
