use Rattle.range_facts.proofs.Stated.{turns}
use Rattle.range_facts.proofs.laws.turn.Goals as goal

pub returns : goal.returns
returns c = turns
