use Rattle.std.proofs.Common.{◌≡◌, ◌++◌}
use Rattle.std.specs.Prelude.{map, take, drop}
use Rattle.range_facts.specs.Along as meaning
use Rattle.range_facts.proofs.tests.forget.Given as goal

abbrev pub invariant-loop-k : goal.invariant-loop-k
invariant-loop-k l = l.tests ≡ map (meaning.unless_of l.r) (take l.k l.initial.tests) ++ drop l.k l.initial.tests
