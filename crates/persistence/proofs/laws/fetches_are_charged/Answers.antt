use Rattle.persistence.proofs.Fetching.{few}
use Rattle.persistence.proofs.laws.fetches_are_charged.Goals as goal

pub returns : goal.returns
returns c = few
