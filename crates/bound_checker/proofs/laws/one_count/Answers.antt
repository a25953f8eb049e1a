use Rattle.bound_checker.proofs.Deciding.{count_one}
use Rattle.bound_checker.proofs.laws.one_count.Goals as goal

pub returns : goal.returns
returns c = count_one
