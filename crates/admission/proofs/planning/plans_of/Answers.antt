use Rattle.std.proofs.Common.{subst, arith}
use Rattle.admission.specs.Planned.{ArePlanned}
use Rattle.admission.specs.Rows.{rows_of}
use Rattle.admission.proofs.Pairs.{all_planned}
use Rattle.admission.proofs.planning.plans_of.Goals as goal

pub returns : goal.returns
returns c =
    all_planned c.args.task.now (rows_of c.args.bounds.now) c.len-points.result c.loop-k.plans c.len-points.ensures
    (subst (λ n. ArePlanned c.args.task.now (rows_of c.args.bounds.now) c.len-points.result n c.loop-k.plans)
    (omega (arith, c.loop-k-test.false, c.loop-k.auto.k-end)) c.loop-k.invariant)
