use Rattle.run_law.proofs.Turning.{runs}
use Rattle.run_law.proofs.laws.every_run_is_a_legal_walk.Goals as goal

pub returns : goal.returns
returns c = runs
