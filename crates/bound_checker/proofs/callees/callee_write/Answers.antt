use Rattle.bound_checker.proofs.Entering.{callee_least}
use Rattle.bound_checker.proofs.callees.callee_write.Goals as goal

pub returns-clause-least : goal.returns-clause-least
returns-clause-least c = λ lines loops mask.
    callee_least c.args.code.now c.args.g.now c.args.region c.args.lo c.args.hi _ _ _ _ lines loops mask c.requires.graph c.requires.region c.requires.within c.clear.ensures.none c.put_all_called.ensures.adds c.spread.ensures.spread c.least_write.ensures
