use Rattle.visa_cli.specs.Demo.{IsDemo}
use Rattle.visa_cli.specs.Stages.{demo}
use Rattle.visa_cli.proofs.Performed.{given, stopped_by}
use Rattle.visa_cli.proofs.top.demonstrate.Goals as goal

pub returns-in-Ok : goal.returns-in-Ok
returns-in-Ok g c = given (demo c.args.seed) (IsDemo c.args.seed) _ _ _ _ c.in-Ok.plan c.sum_up.result c.in-Ok.ensures.ran c.sum_up.ensures

pub returns-in-Err : goal.returns-in-Err
returns-in-Err g c = stopped_by (demo c.args.seed) (IsDemo c.args.seed) _ _ _ _ c.in-Err.status c.report.result c.in-Err.ensures.ran c.report.ensures
