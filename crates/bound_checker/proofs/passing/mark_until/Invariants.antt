use Rattle.bound_checker.specs.Marks.{AreDue, unmarked}
use Rattle.bound_checker.proofs.passing.mark_until.Given as goal

abbrev pub invariant-loop-before : goal.invariant-loop-before
invariant-loop-before l = AreDue l.code l.g l.marks

abbrev pub decreases-loop-before : goal.decreases-loop-before
decreases-loop-before l = unmarked l.marks
