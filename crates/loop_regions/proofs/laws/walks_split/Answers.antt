use Rattle.loop_regions.proofs.Visits.{walk_append, walk_newer, walk_older}
use Rattle.loop_regions.proofs.laws.walks_split.Goals as goal

pub returns : goal.returns
returns c = record { older = walk_older; newer = walk_newer; whole = walk_append }
