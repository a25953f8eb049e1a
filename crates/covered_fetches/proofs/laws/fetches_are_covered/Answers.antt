use Rattle.covered_fetches.proofs.Covering.{covered_by}
use Rattle.covered_fetches.proofs.laws.fetches_are_covered.Goals as goal

pub returns : goal.returns
returns c = covered_by
