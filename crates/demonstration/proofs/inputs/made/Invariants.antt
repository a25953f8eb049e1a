use Rattle.std.proofs.Common.{◌≡◌}
use Rattle.demonstration.specs.Demonstration.{first_jobs, number_after}
use Rattle.demonstration.proofs.inputs.made.Given as goal

abbrev pub invariant-loop-k : goal.invariant-loop-k
invariant-loop-k l = record {
  jobs : l.jobs ≡ first_jobs l.seed l.k;
  number : l.number ≡ number_after l.seed l.k;
}
