use Rattle.std.proofs.Common.{ℕ, ◌<◌, ◌≤◌, get_or}
use Rattle.loop_regions.specs.declared.ways.Way.{Way}
use Rattle.path_wcet.proofs.turns.span_of.Given as goal

abbrev pub invariant-loop-w : goal.invariant-loop-w
invariant-loop-w l = (j : ℕ) (d : Way) → j < l.w-index → (l.low ≤ (get_or l.ways j d).from) × ((get_or l.ways j d).from < l.high)
