use Rattle.std.proofs.Common.{ℕ, take, drop}
use Rattle.std.specs.Prelude.{All}
use Rattle.task_layout.specs.Layout.{FirstUndeclared, IsDeclared}
use Rattle.task_layout.proofs.coverage.first_undeclared.Given as goal

abbrev pub invariant-loop-range : goal.invariant-loop-range
invariant-loop-range l = record {
  declared : All (IsDeclared l.memory) (take l.range-index l.ranges);
  first : (a : ℕ) → FirstUndeclared l.memory (drop l.range-index l.ranges) a → FirstUndeclared l.memory l.ranges a;
}
