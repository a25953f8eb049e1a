use Rattle.std.proofs.Common.{refl}
use Rattle.admitted_jobs.proofs.ExampleCode.{image}
use Rattle.admitted_jobs.proofs.ExampleJob.{admitted, job_there, times}
use Rattle.admitted_jobs.proofs.ExampleTask.{limits, task}
use Rattle.admitted_jobs.proofs.laws.some_task_is_admitted.Goals as goal

pub returns : goal.returns
returns c = (task, image, times, _, limits, admitted, job_there, refl)
