use Rattle.std.proofs.Common.{◌≡◌, take}
use Rattle.persistence.specs.Charges.{addresses_of}
use Rattle.persistence.proofs.scope.addresses_of.Given as goal

abbrev pub invariant-loop-u : goal.invariant-loop-u
invariant-loop-u l = l.addresses.items ≡ addresses_of l.g (take l.u-index l.scope)
