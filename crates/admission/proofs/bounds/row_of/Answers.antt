use Rattle.admission.proofs.Rowing.{more_row}
use Rattle.admission.proofs.bounds.row_of.Goals as goal

pub loop-k-preserved : goal.loop-k-preserved
loop-k-preserved c =
    more_row c.args.task.now c.args.g.now c.args.n.now c.args.cuts.now c.args.period_ps c.loop-k.k c.loop-k.row.items c.push.new.self.items c.in_ok-bound.bound
    c.loop-k.invariant c.in_ok-bound.ensures c.in_ok-push.ensures.items
