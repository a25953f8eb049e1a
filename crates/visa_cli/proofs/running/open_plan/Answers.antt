use Rattle.visa_cli.proofs.Logged.{plan_is, plan_stands}
use Rattle.visa_cli.proofs.running.open_plan.Goals as goal

pub returns-clause-plan : goal.returns-clause-plan
returns-clause-plan c = plan_is c.args.plan c.as_slice.result.now c.in_ok-runner.runner c.as_slice.ensures c.in_ok-runner.ensures

pub returns-clause-stands : goal.returns-clause-stands
returns-clause-stands c = λ kind. plan_stands kind c.args.plan c.as_slice.result.now c.in_ok-runner.runner c.as_slice.ensures c.in_ok-runner.ensures
