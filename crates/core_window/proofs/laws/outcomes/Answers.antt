use Rattle.core_window.proofs.Reached.{law-of-outcomes, oldest-outcome}
use Rattle.core_window.proofs.laws.outcomes.Goals as goal

pub returns-clause-reached : goal.returns-clause-reached
returns-clause-reached c = law-of-outcomes

pub returns-clause-oldest : goal.returns-clause-oldest
returns-clause-oldest c = oldest-outcome
