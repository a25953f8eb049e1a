use Rattle.std.proofs.Common.{take}
use Rattle.bound_checker.specs.Gone.{IsBestOf}
use Rattle.bound_checker.specs.Input.{IsBefore}
use Rattle.bound_checker.proofs.gone.first_lost.Given as goal

abbrev pub invariant-loop-k : goal.invariant-loop-k
invariant-loop-k l = record {
  before : IsBefore l.code l.g l.lines l.w.n l.w.along;
  best : IsBestOf l.code l.g l.lines l.masks (take l.k l.g.edges) l.w.best;
}
