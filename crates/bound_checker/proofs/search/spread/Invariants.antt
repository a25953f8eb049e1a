use Rattle.std.proofs.Common.{length, ◌-◌}
use Rattle.bound_checker.proofs.Searching.{IsSpreading}
use Rattle.bound_checker.proofs.search.spread.Given as goal

abbrev pub invariant-loop-scope : goal.invariant-loop-scope
invariant-loop-scope l = IsSpreading l.code l.g l.scope l.done l.initial.room l.room

abbrev pub decreases-loop-scope : goal.decreases-loop-scope
decreases-loop-scope l = length l.g.units - l.done
