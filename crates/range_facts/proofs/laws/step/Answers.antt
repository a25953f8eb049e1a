use Rattle.range_facts.proofs.Stated.{facts_kept}
use Rattle.range_facts.proofs.Stepping.{step_fits}
use Rattle.range_facts.proofs.laws.step.Goals as goal

pub returns-clause-fits : goal.returns-clause-fits
returns-clause-fits c = step_fits

pub returns-clause-facts : goal.returns-clause-facts
returns-clause-facts c = facts_kept
