use Rattle.subtask_cut.proofs.Charting.{scope_listed}
use Rattle.subtask_cut.proofs.Faults.{ok_more}
use Rattle.subtask_cut.proofs.cuts.scope_of.Goals as goal

pub returns : goal.returns
returns c =
    ok_more _ _
    (λ us l. scope_listed c.args.g.now c.args.next c.args.first _ _ _ _ _ _ c.addresses.ensures c.addresses-2.ensures
    c.edges.ensures c.as_slice.ensures.value
    c.in_ok-marks.ensures us.items l) c.marked.result c.marked.ensures
