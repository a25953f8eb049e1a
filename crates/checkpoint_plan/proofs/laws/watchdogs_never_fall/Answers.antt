use Rattle.checkpoint_plan.proofs.Fits.{watchdogs_grow}
use Rattle.checkpoint_plan.proofs.laws.watchdogs_never_fall.Goals as goal

pub returns : goal.returns
returns c = watchdogs_grow
