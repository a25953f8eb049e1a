use Rattle.job_runner.proofs.Alike.{same_answers, same_states}
use Rattle.job_runner.proofs.laws.modes_agree.Goals as goal

pub returns-clause-states : goal.returns-clause-states
returns-clause-states c = same_states

pub returns-clause-answers : goal.returns-clause-answers
returns-clause-answers c = same_answers
