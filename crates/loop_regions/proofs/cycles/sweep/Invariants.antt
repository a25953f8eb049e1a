use Rattle.loop_regions.proofs.Marks.{IsSweeping}
use Rattle.loop_regions.proofs.cycles.sweep.Given as goal

abbrev pub invariant-loop-w : goal.invariant-loop-w
invariant-loop-w l = IsSweeping l.ways l.start l.fn.marks l.marks l.changed l.w-index
