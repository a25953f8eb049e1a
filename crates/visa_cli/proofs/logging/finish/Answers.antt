use Rattle.std.proofs.Common.{sym, subst}
use Rattle.visa_cli.specs.Run.{IsLog}
use Rattle.visa_cli.specs.Running.{MayRun, plan_on}
use Rattle.visa_cli.specs.declared.plan.Plan.{Plan}
use Rattle.visa_cli.proofs.Performed.{all_put, memory_short, some_put}
use Rattle.visa_cli.proofs.PlanRuns.{log_of}
use Rattle.visa_cli.proofs.logging.finish.Goals as goal

pub returns-in_default : goal.returns-in_default
returns-in_default g c =
    let log = log_of c.args.kind c.args.plan c.requires in
    memory_short (IsLog c.args.kind) c.args.plan log.0 _ _ c.report_memory.result log.1 c.report_memory.ensures

pub log_jobs-requires-clause-runnable : goal.log_jobs-requires-clause-runnable
log_jobs-requires-clause-runnable g c = let Runs : Plan → Type 0 = λ p. MayRun p in subst Runs (sym c.in-Ok.ensures.plan) c.requires

pub log_jobs-requires-clause-stands : goal.log_jobs-requires-clause-stands
log_jobs-requires-clause-stands g c = c.in-Ok.ensures.stands c.args.kind

pub returns-in-Ok-log_jobs : goal.returns-in-Ok-log_jobs
returns-in-Ok-log_jobs g c =
    let log = c.in-Ok-log_jobs.ensures in
    all_put (IsLog c.args.kind) c.args.plan (plan_on c.in-Ok.opened.mode c.in-Ok.opened.task c.in-Ok.opened.jobs c.in-Ok.opened.runner) log.0 _ _ c.in-Ok.ensures.plan log.1 log.2

pub returns : goal.returns
returns g c =
    let log = c.in-Err.ensures in
    some_put (IsLog c.args.kind) c.args.plan (plan_on c.in-Ok.opened.mode c.in-Ok.opened.task c.in-Ok.opened.jobs c.in-Ok.opened.runner) log.0 _ _ c.in-Ok.ensures.plan log.1 log.2
