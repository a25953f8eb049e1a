use Rattle.timed_jobs.proofs.Ends.{job_in_time}
use Rattle.timed_jobs.proofs.laws.every_job_is_in_time.Goals as goal

pub returns : goal.returns
returns c = job_in_time
