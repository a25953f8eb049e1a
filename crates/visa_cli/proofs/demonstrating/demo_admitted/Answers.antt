use Rattle.std.proofs.Common.{◌≡◌, ◌∙◌, [], Result, Ok, Err}
use Rattle.std.specs.Prelude.{IfOk}
use Rattle.visa_io.specs.declared.records.Image.{Image}
use Rattle.task_text.specs.declared.task.Task.{Task}
use Rattle.admission.specs.declared.mode.Mode.TheVariants.{Fast}
use Rattle.demonstration.specs.Demonstration.{demo_task}
use Rattle.visa_cli.specs.Stage.{Outcome}
use Rattle.visa_cli.specs.Stages.{admitted, demo_admission}
use Rattle.visa_cli.specs.declared.admit.AdmittedTask.{AdmittedTask}
use Rattle.visa_cli.specs.declared.status.Status.{Status}
use Rattle.visa_cli.proofs.Chains.{made_ran, made_stops, ran_stops, ran_then, ran_then_still}
use Rattle.visa_cli.proofs.Headline.{task_is}
use Rattle.visa_cli.proofs.demonstrating.demo_admitted.Goals as goal

pub returns-in_default-clause-ran : goal.returns-in_default-clause-ran
unfolding demo_admission
returns-in_default-clause-ran g c = ran_stops (made_stops demo_task _ c.in_default.field-0)

pub returns-in-Ok-image_of_task-clause-ran : goal.returns-in-Ok-image_of_task-clause-ran
unfolding demo_admission
returns-in-Ok-image_of_task-clause-ran g c =
    ran_then c.admit.result (made_ran demo_task c.in-Ok.task _ c.in-Ok.ensures.task)
    (ran_then_still c.admit.result c.in-Ok-image_of_task.ensures.ran c.admit.ensures.outcome)

-- the task that was admitted is the one that was given
task_kept : (t : Task) (i : Image) (r : Result AdmittedTask Status) → Outcome (admitted Fast t i) [] r → t ≡ demo_task → IfOk r (λ a. a.task ≡ demo_task)
task_kept t i (Ok a) outcome same = task_is Fast t i [] a outcome ∙ same
task_kept t i (Err status) outcome same = tt

pub returns-in-Ok-image_of_task-clause-task : goal.returns-in-Ok-image_of_task-clause-task
returns-in-Ok-image_of_task-clause-task g c =
    task_kept c.in-Ok.task c.in-Ok-image_of_task.image c.admit.result c.admit.ensures.outcome c.in-Ok.ensures.task

pub returns-in-Err-clause-ran : goal.returns-in-Err-clause-ran
unfolding demo_admission
returns-in-Err-clause-ran g c = ran_then _ (made_ran demo_task c.in-Ok.task _ c.in-Ok.ensures.task) (ran_stops c.in-Err.ensures.ran)
