use Rattle.std.proofs.Common.{refl}
use Rattle.demonstration.specs.Demonstration.{demo_jobs}
use Rattle.visa_cli.specs.Stages.{demo}
use Rattle.visa_cli.proofs.Chains.{made_ran, made_stops, ran_stops, ran_then, ran_then_still}
use Rattle.visa_cli.proofs.demonstrating.demo_plan.Goals as goal

pub returns-in-Err-clause-ran : goal.returns-in-Err-clause-ran
unfolding demo
returns-in-Err-clause-ran g c = ran_stops c.in-Err.ensures.ran

pub returns-in-Ok-demo_jobs-clause-ran : goal.returns-in-Ok-demo_jobs-clause-ran
unfolding demo
returns-in-Ok-demo_jobs-clause-ran g c =
    ran_then _ c.in-Ok.ensures.ran
    (ran_then_still _ (made_ran (demo_jobs c.args.seed) c.in-Ok-demo_jobs.jobs _ c.in-Ok-demo_jobs.ensures.jobs) (refl, c.plan_of.ensures.answer))

pub returns-in-Err-demo_jobs-clause-ran : goal.returns-in-Err-demo_jobs-clause-ran
unfolding demo
returns-in-Err-demo_jobs-clause-ran g c =
    ran_then _ c.in-Ok.ensures.ran (ran_stops (made_stops (demo_jobs c.args.seed) _ c.in-Err-demo_jobs.field-0))
