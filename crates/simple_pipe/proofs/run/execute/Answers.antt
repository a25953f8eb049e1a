use Rattle.std.proofs.Common.{sym, subst, ◌∙◌}
use Rattle.simple_pipe.specs.Parts.{AreAfter, ran_after}
use Rattle.simple_pipe.proofs.Ending.{no_step_at_exit}
use Rattle.simple_pipe.proofs.run.execute.Goals as goal

pub returns-clause-exit : goal.returns-clause-exit
returns-clause-exit c = λ at went.
    no_step_at_exit c.args.state.now.mips c.memory.ensures.laid_out at (sym c.trace-step.ensures.answer ∙ went)

pub returns-clause-after : goal.returns-clause-after
returns-clause-after c = λ i d rs a.
    subst (λ r. AreAfter c.args.pace i d c.enter.new.parts (ran_after c.trace-step.result.0 r rs)) c.trace-step.ensures.ran (c.enter.ensures i d rs a)
