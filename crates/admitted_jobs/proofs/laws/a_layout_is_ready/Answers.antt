use Rattle.admitted_jobs.proofs.Ready.{layout_ready}
use Rattle.admitted_jobs.proofs.laws.a_layout_is_ready.Goals as goal

pub returns : goal.returns
returns c = layout_ready
