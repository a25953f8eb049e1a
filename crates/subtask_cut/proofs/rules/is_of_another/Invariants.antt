use Rattle.std.proofs.Common.{ℕ, ◌<◌}
use Rattle.subtask_cut.specs.Asked.{IsOther}
use Rattle.subtask_cut.proofs.rules.is_of_another.Given as goal

abbrev pub invariant-loop-f : goal.invariant-loop-f
invariant-loop-f l = (k : ℕ) → k < l.f → IsOther l.g k l.c → ⊥
