use Rattle.walked_jobs.proofs.Running.{prefix, whole_job}
use Rattle.walked_jobs.proofs.laws.jobs_are_runs.Goals as goal

pub returns-clause-prefix : goal.returns-clause-prefix
returns-clause-prefix c = prefix

pub returns-clause-whole : goal.returns-clause-whole
returns-clause-whole c = whole_job
