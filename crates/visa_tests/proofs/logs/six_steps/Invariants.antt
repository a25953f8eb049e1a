use Rattle.std.proofs.Common.{◌≡◌}
use Rattle.visa_tests.proofs.logs.six_steps.Given as goal

-- the steps so far left the room for output as it was
abbrev pub invariant-loop : goal.invariant-loop
invariant-loop g l = l.state.mips.output_max ≡ l.initial.state.mips.output_max
