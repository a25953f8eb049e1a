use Rattle.std.proofs.Common.{◌≡◌, map, take}
use Rattle.path_wcet.specs.Tables.{edge_entry}
use Rattle.path_wcet.proofs.tables.edge_costs.Given as goal

abbrev pub invariant-loop-unit : goal.invariant-loop-unit
invariant-loop-unit l = l.costs.items ≡ map (edge_entry l.k) (take l.unit-index l.units)
