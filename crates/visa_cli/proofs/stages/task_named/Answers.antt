use Rattle.std.proofs.Common.{subst, ℕ, List, []}
use Rattle.visa_cli.specs.Stage.{Outcome, still}
use Rattle.visa_cli.specs.Stages.{TaskAnswer, task, task_status}
use Rattle.visa_cli.proofs.Chains.{ran_stops, ran_then_still}
use Rattle.visa_cli.proofs.stages.task_named.Goals as goal

pub returns-in-Ok-clause-ran : goal.returns-in-Ok-clause-ran
unfolding task
returns-in-Ok-clause-ran g c =
    let Of : List ℕ → Type 0 = λ b. Outcome (still (TaskAnswer b) task_status) [] c.task_of.result in
    ran_then_still c.task_of.result c.in-Ok.ensures (subst Of c.as_slice.ensures c.task_of.ensures.outcome)

pub returns-in-Err-clause-ran : goal.returns-in-Err-clause-ran
unfolding task
returns-in-Err-clause-ran g c = ran_stops c.in-Err.ensures
