use Rattle.task_text.proofs.Unique.{one_jobs, jobs_refusal, jobs_or_refusal}
use Rattle.task_text.proofs.laws.one_list_of_jobs.Goals as goal

pub returns-clause-jobs : goal.returns-clause-jobs
returns-clause-jobs c = one_jobs

pub returns-clause-refusals : goal.returns-clause-refusals
returns-clause-refusals c = jobs_refusal

pub returns-clause-apart : goal.returns-clause-apart
returns-clause-apart c = jobs_or_refusal
