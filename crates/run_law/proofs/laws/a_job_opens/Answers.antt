use Rattle.run_law.proofs.Opening.{has_code_after, opens_of}
use Rattle.run_law.proofs.laws.a_job_opens.Goals as goal

pub returns-clause-opens : goal.returns-clause-opens
returns-clause-opens c = opens_of

pub returns-clause-leaves : goal.returns-clause-leaves
returns-clause-leaves c = has_code_after
