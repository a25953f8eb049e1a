use Rattle.range_facts.proofs.Opening.{opening_fits}
use Rattle.range_facts.proofs.laws.opening.Goals as goal

pub returns : goal.returns
returns c = opening_fits
