use Rattle.std.proofs.Common.{◌-◌, ◌≤◌}
use Rattle.bound_checker.specs.Input.{IsBefore}
use Rattle.bound_checker.proofs.gone.moved.Given as goal

abbrev pub invariant-loop-at : goal.invariant-loop-at
invariant-loop-at l = record {
  before : IsBefore l.code l.g l.lines l.at l.a;
  order : l.at ≤ l.to;
}

abbrev pub decreases-loop-at : goal.decreases-loop-at
decreases-loop-at l = l.to - l.at
