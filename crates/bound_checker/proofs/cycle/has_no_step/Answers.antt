use Rattle.bound_checker.proofs.Entering.{no_step_told}
use Rattle.bound_checker.proofs.cycle.has_no_step.Goals as goal

pub returns-clause-is : goal.returns-clause-is
returns-clause-is c = λ lines loops mask.
    no_step_told c.args.code.now c.args.g.now c.args.region c.args.header _ _ _ c.is_found.result lines loops mask c.requires.graph c.requires.within c.requires.header c.clear.ensures.none c.pass_on.ensures.adds c.spread.ensures.spread c.is_found.ensures
