use Rattle.std.proofs.Common.{◌≤◌, ◌-◌}
use Rattle.mips_ref.specs.Layout.{CoveredWithin}
use Rattle.mips_ref.proofs.memory.Memory.covers.Given as goal

abbrev pub invariant-loop-at : goal.invariant-loop-at
invariant-loop-at l = (l.at ≤ l.next) × CoveredWithin l.write l.self l.at l.next

abbrev pub decreases-loop-at : goal.decreases-loop-at
decreases-loop-at l = l.end - l.next
