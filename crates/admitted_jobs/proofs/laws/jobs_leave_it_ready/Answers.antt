use Rattle.admitted_jobs.proofs.Ready.{leaves_ready}
use Rattle.admitted_jobs.proofs.laws.jobs_leave_it_ready.Goals as goal

pub returns : goal.returns
returns c = leaves_ready
