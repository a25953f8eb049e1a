use Rattle.run_law.proofs.Whole.{ends, whole}
use Rattle.run_law.proofs.laws.every_job_is_a_legal_walk.Goals as goal

pub returns-clause-ends : goal.returns-clause-ends
returns-clause-ends c = ends

pub returns-clause-walk : goal.returns-clause-walk
returns-clause-walk c = whole
