use Rattle.admitted_jobs.proofs.Jobs.{cuts_in, job_ends}
use Rattle.admitted_jobs.proofs.laws.every_job_is_in_time.Goals as goal

pub returns : goal.returns
returns c = λ mode t i times x point limits admitted job below. job_ends mode t i times x point limits admitted (cuts_in mode t i times admitted) job below
