use Rattle.std.proofs.Common.{refl, Ok, Err}
use Rattle.list_text.specs.Lists.{list_lines}
use Rattle.visa_cli.specs.Listing.{IsListing}
use Rattle.visa_cli.specs.Stages.{listing}
use Rattle.visa_cli.proofs.Performed.{given, listed, not_listed, stopped_by}
use Rattle.visa_cli.proofs.top.list.Goals as goal

pub returns-in-Err : goal.returns-in-Err
returns-in-Err g c =
    stopped_by (listing c.args.task_name.now) IsListing _ _ _ _ c.in-Err.refusal c.report.result
    (not_listed c.args.task_name.now _ _ c.in-Err.refusal c.in-Err.ensures.ran) c.report.ensures

pub returns-in-Ok-image_of_task : goal.returns-in-Ok-image_of_task
returns-in-Ok-image_of_task g c =
    given (listing c.args.task_name.now) IsListing _ _ _ _ c.in-Ok-image_of_task.image c.list_code.result
    (listed c.args.task_name.now c.in-Ok.task _ _ _ (Ok c.in-Ok-image_of_task.image) c.in-Ok.ensures.ran c.in-Ok-image_of_task.ensures.ran)
    (list_lines c.in-Ok-image_of_task.image, refl, c.list_code.ensures)

pub returns : goal.returns
returns g c =
    stopped_by (listing c.args.task_name.now) IsListing _ _ _ _ c.in-Err-image_of_task.status c.report-in-Err-image_of_task.result
    (listed c.args.task_name.now c.in-Ok.task _ _ _ (Err c.in-Err-image_of_task.status) c.in-Ok.ensures.ran c.in-Err-image_of_task.ensures.ran)
    c.report-in-Err-image_of_task.ensures
