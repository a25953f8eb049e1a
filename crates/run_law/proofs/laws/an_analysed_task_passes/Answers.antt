use Rattle.run_law.proofs.Keeping.{keeps, passed_of}
use Rattle.run_law.proofs.laws.an_analysed_task_passes.Goals as goal

pub returns-clause-passes : goal.returns-clause-passes
returns-clause-passes c = passed_of

pub returns-clause-keeps : goal.returns-clause-keeps
returns-clause-keeps c = keeps
