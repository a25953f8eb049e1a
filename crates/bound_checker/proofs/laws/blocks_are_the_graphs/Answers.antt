use Rattle.bound_checker.proofs.Agreeing.{blocks_are}
use Rattle.bound_checker.proofs.laws.blocks_are_the_graphs.Goals as goal

pub returns : goal.returns
returns c = blocks_are
