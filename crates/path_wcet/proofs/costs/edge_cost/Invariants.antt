use Rattle.std.proofs.Common.{◌≡◌, drop}
use Rattle.path_wcet.specs.Static.{edge_price}
use Rattle.path_wcet.proofs.costs.edge_cost.Given as goal

abbrev pub invariant-loop-unit : goal.invariant-loop-unit
invariant-loop-unit l = edge_price l.g.units l.e ≡ edge_price (drop l.unit-index l.g.units) l.e
