use Rattle.persistence.proofs.Walking.{part_of_walk}
use Rattle.persistence.proofs.laws.walks_are_charged.Goals as goal

pub returns : goal.returns
returns c = part_of_walk
