use Rattle.job_runner.proofs.Planned.{pair_planned}
use Rattle.job_runner.proofs.laws.every_pair_is_planned.Goals as goal

pub returns : goal.returns
returns c = pair_planned
