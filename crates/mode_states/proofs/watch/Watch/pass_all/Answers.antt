use Rattle.mode_states.proofs.CutsMet.{pass_end, pass_step}
use Rattle.std.proofs.Common.{sym, ◌∙◌}
use Rattle.mode_states.proofs.watch.Watch.pass_all.Goals as goal

pub loop-pc-preserved : goal.loop-pc-preserved
loop-pc-preserved c =
    (pass_step _ _ _ _ _ _ c.loop-pc-test.true c.pass.ensures.progress ∙ c.loop-pc.invariant.0, c.pass.ensures.watching)

pub returns-clause-progress : goal.returns-clause-progress
returns-clause-progress c = sym (pass_end _ _ _ _ _ c.loop-pc-test.false) ∙ c.loop-pc.invariant.0
