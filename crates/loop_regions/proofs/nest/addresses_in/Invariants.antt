use Rattle.std.proofs.Common.{◌≡◌, take}
use Rattle.loop_regions.specs.Ways.{addresses_of}
use Rattle.loop_regions.proofs.nest.addresses_in.Given as goal

abbrev pub invariant-loop-unit : goal.invariant-loop-unit
invariant-loop-unit l = l.addresses.items ≡ addresses_of (take l.unit-index l.units)
