use Rattle.demonstration.proofs.Given.{given, limits}
use Rattle.demonstration.proofs.laws.the_task_is_given.Goals as goal

pub returns-clause-given : goal.returns-clause-given
returns-clause-given c = given

pub returns-clause-limits : goal.returns-clause-limits
returns-clause-limits c = limits
