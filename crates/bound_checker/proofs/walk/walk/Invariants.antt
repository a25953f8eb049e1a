use Rattle.std.proofs.Common.{◌≤◌}
use Rattle.bound_checker.specs.Input.{IsBefore}
use Rattle.bound_checker.specs.Walk.{IsWalked}
use Rattle.bound_checker.proofs.walk.walk.Given as goal

abbrev pub invariant-loop-k : goal.invariant-loop-k
invariant-loop-k l = record {
  known : IsBefore l.code l.g l.lines l.w.n l.w.along;
  order : l.w.n ≤ l.k;
  walked : IsWalked l.code l.g l.lines l.region l.initial.k l.k l.w;
}
