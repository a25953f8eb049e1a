use Rattle.std.proofs.Common.{◌≡◌, map, take}
use Rattle.path_wcet.specs.Tables.{first_entry}
use Rattle.path_wcet.proofs.tables.first_returns.Given as goal

abbrev pub invariant-loop-unit : goal.invariant-loop-unit
invariant-loop-unit l = l.rets.items ≡ map (first_entry l.to) (take l.unit-index l.units)
