use Rattle.bound_checker.proofs.Agreeing.{check_one}
use Rattle.bound_checker.proofs.laws.one_check.Goals as goal

pub returns : goal.returns
returns c = check_one
