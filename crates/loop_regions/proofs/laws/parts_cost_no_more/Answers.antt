use Rattle.loop_regions.proofs.Sums.{places_spent, places_young, young_more, young_older}
use Rattle.loop_regions.proofs.laws.parts_cost_no_more.Goals as goal

pub returns : goal.returns
returns c = record { whole = places_spent; begins = places_young; newer = young_more; older = young_older }
