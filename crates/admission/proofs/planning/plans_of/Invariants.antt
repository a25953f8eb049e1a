use Rattle.admission.specs.Planned.{ArePlanned}
use Rattle.admission.specs.Rows.{rows_of}
use Rattle.admission.proofs.planning.plans_of.Given as goal

abbrev pub invariant-loop-k : goal.invariant-loop-k
invariant-loop-k l = ArePlanned l.task (rows_of l.bounds) l.points l.k l.plans
