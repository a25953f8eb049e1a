use Rattle.std.proofs.Common.{subst, length}
use Rattle.admission.specs.Bounding.{IsRow}
use Rattle.admission.proofs.Rowing.{more_rows}
use Rattle.admission.proofs.bounds.bounds_of.Goals as goal

pub loop-p-preserved : goal.loop-p-preserved
loop-p-preserved c = (
  more_rows c.args.task.now c.args.g.now c.args.n.now c.args.cuts.now c.loop-p.p c.loop-p.rows.items c.push.new.self.items c.in_ok-row.row
      c.loop-p.invariant.0
      (subst (λ period. IsRow c.args.task.now c.args.g.now c.args.n.now c.args.cuts.now period (length c.args.cuts.now.firsts) c.in_ok-row.row.items) c.period_of-period_ps.ensures.value c.in_ok-row.ensures)
      c.in_ok-push.ensures.items,
  c.set_pens.ensures,
)
