use Rattle.predictors.proofs.Numbers.{guess-by_numbers}
use Rattle.predictors.proofs.builtin.BuiltinPredictor.guess.Goals as goal

pub returns-clause-numbers : goal.returns-clause-numbers
returns-clause-numbers c = guess-by_numbers c.args.self.now _ _ _ _ c.guess_next.ensures
