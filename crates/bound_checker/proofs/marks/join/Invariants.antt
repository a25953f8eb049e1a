use Rattle.std.proofs.Common.{◌≡◌, ℕ, ◌<◌, true}
use Rattle.bound_checker.specs.Marks.{AreDue, IsBelow, mark_at}
use Rattle.bound_checker.proofs.marks.join.Given as goal

abbrev pub invariant-loop-r : goal.invariant-loop-r
invariant-loop-r l = record {
  due : AreDue l.code l.g l.marks;
  below : IsBelow l.initial.marks l.marks;
  done : (q : ℕ) → q < l.r → mark_at l.initial.marks l.other q ≡ true → mark_at l.marks l.row q ≡ true;
}
