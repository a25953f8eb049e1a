use Rattle.path_wcet.proofs.Slower.{slower_cost}
use Rattle.path_wcet.proofs.laws.a_slower_point_costs_no_more.Goals as goal

pub returns : goal.returns
returns c = slower_cost
