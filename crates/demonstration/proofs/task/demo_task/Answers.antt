use Rattle.demonstration.proofs.Given.{made_given, made_limited}
use Rattle.demonstration.proofs.task.demo_task.Goals as goal

pub returns-clause-given : goal.returns-clause-given
returns-clause-given c = made_given c.built.result c.built.ensures

pub returns-clause-limits : goal.returns-clause-limits
returns-clause-limits c = made_limited c.built.result c.built.ensures
