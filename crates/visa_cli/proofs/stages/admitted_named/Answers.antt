use Rattle.visa_cli.specs.Stages.{admission}
use Rattle.visa_cli.proofs.Chains.{ran_stops, ran_then, ran_then_still}
use Rattle.visa_cli.proofs.stages.admitted_named.Goals as goal

pub returns-in-Err-clause-ran : goal.returns-in-Err-clause-ran
unfolding admission
returns-in-Err-clause-ran g c = ran_stops c.in-Err.ensures.ran

pub returns-in-Ok-image_of_task-clause-ran : goal.returns-in-Ok-image_of_task-clause-ran
unfolding admission
returns-in-Ok-image_of_task-clause-ran g c =
    ran_then c.admit.result c.in-Ok.ensures.ran (ran_then_still c.admit.result c.in-Ok-image_of_task.ensures.ran c.admit.ensures.outcome)

pub returns-in-Err-image_of_task-clause-ran : goal.returns-in-Err-image_of_task-clause-ran
unfolding admission
returns-in-Err-image_of_task-clause-ran g c = ran_then _ c.in-Ok.ensures.ran (ran_stops c.in-Err-image_of_task.ensures.ran)
