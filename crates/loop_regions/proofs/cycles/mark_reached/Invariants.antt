use Rattle.std.proofs.Common.{◌≡◌, length}
use Rattle.loop_regions.specs.Cycles.{AreAhead, unmarked}
use Rattle.loop_regions.proofs.cycles.mark_reached.Given as goal

abbrev pub invariant-loop : goal.invariant-loop
invariant-loop l = (length l.marks ≡ length l.fn.marks) × (AreAhead l.ways l.start l.fn.marks → AreAhead l.ways l.start l.marks)

abbrev pub decreases-loop : goal.decreases-loop
decreases-loop l = unmarked l.marks
