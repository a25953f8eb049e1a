use Rattle.bound_checker.proofs.Agreeing.{found_agrees}
use Rattle.bound_checker.proofs.laws.masks_agree.Goals as goal

pub returns : goal.returns
returns c = found_agrees
