use Rattle.demonstration.proofs.FirstJobs.{count, fits, input, past}
use Rattle.demonstration.proofs.laws.each_job_has_its_input.Goals as goal

pub returns-clause-number : goal.returns-clause-number
returns-clause-number c = count

pub returns-clause-past : goal.returns-clause-past
returns-clause-past c = past

pub returns-clause-input : goal.returns-clause-input
returns-clause-input c = input

pub returns-clause-fits : goal.returns-clause-fits
returns-clause-fits c = fits
