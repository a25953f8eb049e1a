use Rattle.std.proofs.Common.{refl}
use Rattle.visa_cli.proofs.Performed.{words_ran}
use Rattle.visa_cli.proofs.stages.image_of_task.Goals as goal

pub returns-in-Ok-clause-ran : goal.returns-in-Ok-clause-ran
returns-in-Ok-clause-ran g c = words_ran c.args.task.now c.args.task.now.image _ _ c.in-None.ensures (refl, c.in-Ok.ensures.image)

pub returns-in-Err-clause-ran : goal.returns-in-Err-clause-ran
returns-in-Err-clause-ran g c = words_ran c.args.task.now c.args.task.now.image _ _ c.in-None.ensures (refl, (c.in-Err.field-0, tt, refl))
