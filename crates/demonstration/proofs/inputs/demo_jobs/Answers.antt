use Rattle.demonstration.proofs.FirstJobs.{made_fit}
use Rattle.demonstration.proofs.inputs.demo_jobs.Goals as goal

pub returns-clause-inputs : goal.returns-clause-inputs
returns-clause-inputs c = made_fit c.args.seed c.made.result c.made.ensures
