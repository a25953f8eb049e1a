use Rattle.std.proofs.Common.{◌∙◌}
use Rattle.job_runner.specs.Run.{with_subs}
use Rattle.job_runner.proofs.runner.fast_end.Goals as goal

pub invariant_of-runner : goal.invariant_of-runner
invariant_of-runner c =
    let told = c.requires in
    record {
      counts = with_subs 1 c.counts.result.now told.counts;
      stands = c.tell.ensures.stands told.counts told.stands;
      subs = c.tell.ensures.subs ∙ told.subs;
    }
