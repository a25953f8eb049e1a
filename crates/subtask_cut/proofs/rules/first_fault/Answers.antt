use Rattle.std.proofs.Common.{◌+◌, subst}
use Rattle.subtask_cut.specs.Asked.{IsFaultOf}
use Rattle.subtask_cut.proofs.Faults.{first_told, sound_all, sound_more, sound_none}
use Rattle.subtask_cut.proofs.rules.first_fault.Goals as goal

pub loop-k-init : goal.loop-k-init
loop-k-init c = sound_none c.args.g.now c.args.n.now.regions c.args.cuts.now

pub loop-k-preserved : goal.loop-k-preserved
loop-k-preserved c =
    sound_more c.args.g.now c.args.n.now.regions c.args.cuts.now c.loop-k.k
    (subst (IsFaultOf c.args.g.now c.args.n.now.regions c.args.cuts.now (c.loop-k.k + 2)) c.in_default.is
    c.in_ok-fault.ensures) c.loop-k.invariant

pub returns-in-Some : goal.returns-in-Some
returns-in-Some c =
    first_told c.args.g.now c.args.n.now.regions c.args.cuts.now c.loop-k.k c.in-Some.fault c.loop-k.invariant
    (subst (IsFaultOf c.args.g.now c.args.n.now.regions c.args.cuts.now (c.loop-k.k + 2)) c.in-Some.is
    c.in_ok-fault.ensures)

pub returns : goal.returns
returns c = sound_all c.args.g.now c.args.n.now.regions c.args.cuts.now c.loop-k.k c.loop-k-test.false
    c.loop-k.invariant
