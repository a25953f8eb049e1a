use Rattle.admission.specs.Analysing.{AreCountedTo}
use Rattle.admission.proofs.analysis.check_counts.Given as goal

abbrev pub invariant-loop-k : goal.invariant-loop-k
invariant-loop-k l = AreCountedTo l.task l.code l.entry l.g l.n l.k l.p
