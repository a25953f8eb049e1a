use Rattle.std.proofs.Common.{take, []}
use Rattle.std.specs.Prelude.{slice_index_or}
use Rattle.bound_checker.specs.Marks.{IsPassed}
use Rattle.bound_checker.proofs.passing.mark_function.Given as goal

abbrev pub invariant-loop-k : goal.invariant-loop-k
invariant-loop-k l = IsPassed l.code l.g l.row (take l.k (slice_index_or l.g.function_units l.row [])) l.initial.marks l.marks
