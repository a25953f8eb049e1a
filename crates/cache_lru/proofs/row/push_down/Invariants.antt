use Rattle.cache_lru.proofs.Touches.{IsPushing}
use Rattle.cache_lru.proofs.row.push_down.Given as goal

abbrev pub invariant-loop-slot : goal.invariant-loop-slot
invariant-loop-slot l = IsPushing l.line l.initial.lines l.slot-index l.held l.lines
