use Rattle.std.proofs.Common.{sym, subst}
use Rattle.simple_pipe.specs.Parts.{AreAfter, ran_after}
use Rattle.simple_pipe.proofs.run.enter.Goals as goal

pub returns-in-Went : goal.returns-in-Went
returns-in-Went c = λ i d rs a.
    subst (λ s. AreAfter c.args.pace i d c.enter.new.self (ran_after s c.args.ran rs)) (sym c.in-Went.is) (c.enter.ensures i d rs a)

pub returns-in-Trap : goal.returns-in-Trap
returns-in-Trap c = λ i d rs a.
    subst (λ s. AreAfter c.args.pace i d c.enter-in-Trap.new.self (ran_after s c.args.ran rs)) (sym c.in-Trap.is) (c.enter-in-Trap.ensures i d rs a)
