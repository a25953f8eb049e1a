use Rattle.std.specs.Prelude.{◌≡◌, length}
use Rattle.analysis_tests.proofs.plans.push_all.Given as goal

abbrev pub invariant-loop : goal.invariant-loop
invariant-loop l = length l.history ≡ 1
