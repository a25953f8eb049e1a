use Rattle.admission.specs.Bounding.{IsRow}
use Rattle.admission.proofs.bounds.row_of.Given as goal

abbrev pub invariant-loop-k : goal.invariant-loop-k
invariant-loop-k l = IsRow l.task l.g l.n l.cuts l.period_ps l.k l.row.items
