use Rattle.predictors.proofs.Numbers.{numbers-after}
use Rattle.predictors.proofs.builtin.BuiltinPredictor.learn.Goals as goal

pub returns-clause-numbers : goal.returns-clause-numbers
returns-clause-numbers c = numbers-after c.args.self.now _ _ _ _ _ c.learn_next.ensures
