use Rattle.std.proofs.Common.{◌≡◌, map, take}
use Rattle.path_wcet.specs.Tables.{unit_entry}
use Rattle.path_wcet.proofs.tables.unit_costs.Given as goal

abbrev pub invariant-loop-unit : goal.invariant-loop-unit
invariant-loop-unit l = l.prices.items ≡ map (unit_entry l.costs l.to) (take l.unit-index l.units)
