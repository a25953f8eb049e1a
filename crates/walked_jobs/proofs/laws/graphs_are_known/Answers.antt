use Rattle.walked_jobs.proofs.Graphs.{functions_are, over_are, units_are}
use Rattle.walked_jobs.proofs.laws.graphs_are_known.Goals as goal

pub returns-clause-units : goal.returns-clause-units
returns-clause-units c = units_are

pub returns-clause-functions : goal.returns-clause-functions
returns-clause-functions c = functions_are

pub returns-clause-over : goal.returns-clause-over
returns-clause-over c = over_are
