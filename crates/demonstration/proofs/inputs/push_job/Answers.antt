use Rattle.demonstration.proofs.FirstJobs.{job_pushed}
use Rattle.demonstration.proofs.inputs.push_job.Goals as goal

pub returns-clause-jobs : goal.returns-clause-jobs
returns-clause-jobs c = job_pushed c.args.jobs.now c.args.job c.args.start c.word_count-count.result c.words_start.result c.len.result _ _ c.word_count-count.ensures c.words_start.ensures c.len.ensures c.in_ok-number.ensures.bytes c.in_ok-push.ensures.ok
