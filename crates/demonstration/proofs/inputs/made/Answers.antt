use Rattle.std.proofs.Common.{arith}
use Rattle.demonstration.proofs.FirstJobs.{all_jobs, next_job, next_start}
use Rattle.demonstration.proofs.inputs.made.Goals as goal

pub loop-k-preserved : goal.loop-k-preserved
loop-k-preserved c = record {
  jobs = next_job c.args.seed c.loop-k.k c.loop-k.number c.loop-k.jobs _ c.loop-k.invariant.jobs c.loop-k.invariant.number c.in_ok-number.ensures.jobs;
  number = next_start c.args.seed c.loop-k.k c.loop-k.number c.in_ok-number.number c.loop-k.invariant.number c.in_ok-number.ensures.number;
}

pub returns : goal.returns
returns c = all_jobs c.args.seed c.loop-k.k c.loop-k.jobs (omega arith) c.loop-k.invariant.jobs
