use Rattle.covered_fetches.proofs.Covering.{start_is_covered}
use Rattle.covered_fetches.proofs.laws.starts_are_covered.Goals as goal

pub returns : goal.returns
returns c = start_is_covered
