use Rattle.std.proofs.Common.{refl}
use Rattle.admission.specs.declared.mode.Mode.TheVariants.{Fast}
use Rattle.visa_cli.specs.Check.{IsCheck, check_lines}
use Rattle.visa_cli.specs.Stages.{admission}
use Rattle.visa_cli.proofs.Performed.{given, stopped_by}
use Rattle.visa_cli.proofs.top.check.Goals as goal

pub returns-in-Ok : goal.returns-in-Ok
returns-in-Ok g c =
    given (admission Fast c.args.task_name.now) IsCheck _ _ _ _ c.in-Ok.admitted c.tell.result c.in-Ok.ensures.ran
    (check_lines c.in-Ok.admitted.task c.in-Ok.admitted.times, refl, c.tell.ensures)

pub returns-in-Err : goal.returns-in-Err
returns-in-Err g c = stopped_by (admission Fast c.args.task_name.now) IsCheck _ _ _ _ c.in-Err.status c.report.result c.in-Err.ensures.ran c.report.ensures
