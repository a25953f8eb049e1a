use Rattle.loop_regions.proofs.Turns.{turn}
use Rattle.loop_regions.proofs.laws.cycles_have_regions.Goals as goal

pub returns : goal.returns
returns c = turn
