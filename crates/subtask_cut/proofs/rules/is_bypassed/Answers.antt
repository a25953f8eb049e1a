use Rattle.subtask_cut.proofs.Charting.{says_bypassed}
use Rattle.subtask_cut.proofs.rules.is_bypassed.Goals as goal

pub returns : goal.returns
returns c =
    says_bypassed c.args.g.now c.args.c _ c.args.n.now.addresses _ _ _ _ c.units.ensures c.addresses.ensures
    c.as_slice.ensures.value c.in_ok-marks.ensures
    c.does_return.ensures
