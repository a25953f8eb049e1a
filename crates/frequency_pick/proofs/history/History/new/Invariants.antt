use Rattle.std.proofs.Common.{◌≡◌, [], replicate}
use Rattle.frequency_pick.specs.Held.{AreRings, kept_in}
use Rattle.frequency_pick.proofs.history.History.new.Given as goal

abbrev pub invariant-loop-made : goal.invariant-loop-made
invariant-loop-made l = AreRings l.rings.items × (kept_in l.rings.items ≡ replicate l._made [])
