use Rattle.job_runner.proofs.Once.{job_once, simple_once}
use Rattle.job_runner.proofs.laws.one_job.Goals as goal

pub returns-clause-simple : goal.returns-clause-simple
returns-clause-simple c = simple_once

pub returns-clause-fast : goal.returns-clause-fast
returns-clause-fast c = job_once
