use Rattle.checkpoint_plan.proofs.Fits.{switch_fits}
use Rattle.checkpoint_plan.proofs.laws.a_switch_in_time_fits.Goals as goal

pub returns : goal.returns
returns c = switch_fits
