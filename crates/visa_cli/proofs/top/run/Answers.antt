use Rattle.visa_cli.specs.Run.{IsLog}
use Rattle.visa_cli.specs.Stages.{plan}
use Rattle.visa_cli.proofs.Performed.{given, stopped_by}
use Rattle.visa_cli.proofs.top.run.Goals as goal

pub returns-in-Ok : goal.returns-in-Ok
returns-in-Ok g c =
    given (plan c.args.mode c.args.task_name.now c.args.jobs_name.now) (IsLog c.args.predictor) _ _ _ _ c.in-Ok.plan c.finish.result c.in-Ok.ensures.ran
    c.finish.ensures

pub returns-in-Err : goal.returns-in-Err
returns-in-Err g c =
    stopped_by (plan c.args.mode c.args.task_name.now c.args.jobs_name.now) (IsLog c.args.predictor) _ _ _ _ c.in-Err.status c.report.result c.in-Err.ensures.ran
    c.report.ensures
