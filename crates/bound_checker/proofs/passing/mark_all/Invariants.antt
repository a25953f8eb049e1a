use Rattle.bound_checker.specs.Marks.{ArePassed}
use Rattle.bound_checker.proofs.passing.mark_all.Given as goal

abbrev pub invariant-loop-row : goal.invariant-loop-row
invariant-loop-row l = ArePassed l.code l.g l.row l.initial.marks l.marks
