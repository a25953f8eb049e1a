use Rattle.std.proofs.Common.{◌≡◌, take}
use Rattle.bound_checker.specs.Lines.{unit_addresses}
use Rattle.bound_checker.proofs.check.addresses_in.Given as goal

abbrev pub invariant-loop-unit : goal.invariant-loop-unit
invariant-loop-unit l = l.addresses.items ≡ unit_addresses (take l.unit-index l.units)
