use Rattle.loop_regions.proofs.Sums.{places_young, young_more, young_older}
use Rattle.path_wcet.proofs.laws.a_suffix_costs_no_more.Goals as goal

pub returns : goal.returns
returns c = record { walk = places_young; newer = young_more; older = young_older }
