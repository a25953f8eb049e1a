use Rattle.admitted_jobs.proofs.InOrder.{cuts_in_order, cuts_once}
use Rattle.admitted_jobs.proofs.Jobs.{cuts_in}
use Rattle.admitted_jobs.proofs.laws.jobs_meet_cuts_in_order.Goals as goal

pub returns-clause-order : goal.returns-clause-order
returns-clause-order c = λ mode t i times x n j c d limits admitted job went one two here.
    cuts_in_order mode t i times x n j c d limits admitted (cuts_in mode t i times admitted) job went one two here

pub returns-clause-once : goal.returns-clause-once
returns-clause-once c = cuts_once
