use Rattle.std.proofs.Common.{take}
use Rattle.persistence.specs.Counts.{IsCount}
use Rattle.persistence.proofs.lines.count_by_set.Given as goal

abbrev pub invariant-loop-line : goal.invariant-loop-line
invariant-loop-line l = IsCount l.shape (take l.line-index l.lines) l.counts.items
