use Rattle.std.proofs.Common.{subst, ℕ, List, []}
use Rattle.visa_cli.specs.Stage.{Outcome, still}
use Rattle.visa_cli.specs.Stages.{JobsAnswer, jobs, jobs_status}
use Rattle.visa_cli.proofs.Chains.{ran_stops, ran_then_still}
use Rattle.visa_cli.proofs.stages.jobs_named.Goals as goal

pub returns-in-Ok-clause-ran : goal.returns-in-Ok-clause-ran
unfolding jobs
returns-in-Ok-clause-ran g c =
    let Of : List ℕ → Type 0 = λ b. Outcome (still (JobsAnswer b c.args.task.now) jobs_status) [] c.jobs_of.result in
    ran_then_still c.jobs_of.result c.in-Ok.ensures (subst Of c.as_slice.ensures c.jobs_of.ensures.outcome)

pub returns-in-Err-clause-ran : goal.returns-in-Err-clause-ran
unfolding jobs
returns-in-Err-clause-ran g c = ran_stops c.in-Err.ensures
