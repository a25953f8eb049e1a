use Rattle.visa_cli.proofs.Headline.{may_run}
use Rattle.visa_cli.proofs.stages.plan_of.Goals as goal

pub returns-clause-runnable : goal.returns-clause-runnable
returns-clause-runnable c = may_run c.args.mode c.args.admitted c.args.jobs c.requires.fit c.requires.inputs c.requires.past
