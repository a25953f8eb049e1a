use Rattle.std.proofs.Common.{sym, ◌∙◌}
use Rattle.subtask_cut.specs.Search.{asked_by}
use Rattle.subtask_cut.proofs.Searching.{follow_come, follow_skipped}
use Rattle.subtask_cut.proofs.search.follow.Goals as goal
use Rattle.subtask_cut.proofs.search.follow.Goals.{then-asks+in_ok-come_to, else-asks}

pub loop-e-preserved : goal.loop-e-preserved
loop-e-preserved c = elim c.if-asks.branch [
  | then-asks+in_ok-come_to w ↦
      rw (w.marks-is, w.work-is) (follow_come c.args.addresses.now
      (asked_by c.args.along) c.args.avoid c.args.edges.now c.loop-e.e-index _ _ _ _ _ _ _ c.loop-e-test.true
      (sym c.asks.ensures ∙ w.if-asks.true) c.loop-e.invariant w.in_ok-come_to.ensures)
  | else-asks w ↦
      rw (w.marks-is, w.work-is) (follow_skipped c.args.addresses.now
      (asked_by c.args.along) c.args.avoid c.args.edges.now c.loop-e.e-index _ _ _ _ _ c.loop-e-test.true
      (sym c.asks.ensures ∙ w.if-asks.false) c.loop-e.invariant)
]
