use Rattle.std.proofs.Common.{subst}
use Rattle.visa_io.specs.ImageCode.{code_of_image}
use Rattle.admission.specs.Judging.{IsTimed}
use Rattle.admission.specs.Refused.{IsRefused}
use Rattle.admission.proofs.Decided.{judged_is, refused_is, rows_are, rows_some}
use Rattle.admission.proofs.deciding.decided.Goals as goal

pub judged-requires-clause-rows : goal.judged-requires-clause-rows
judged-requires-clause-rows c = rows_are c.args.task.now c.args.code.now c.unwrap_or-entry.result c.in-Ok.times c.requires.limits c.in-Ok.ensures.ok

pub judged-requires-clause-some : goal.judged-requires-clause-some
judged-requires-clause-some c = rows_some c.args.task.now c.args.code.now c.unwrap_or-entry.result c.in-Ok.times c.requires.limits c.in-Ok.ensures.ok

pub judged-requires-clause-points : goal.judged-requires-clause-points
judged-requires-clause-points c = c.in-Ok.ensures.ok.bounds.points

pub returns-in-Ok : goal.returns-in-Ok
returns-in-Ok c =
    judged_is c.args.mode c.args.task.now c.args.image.now c.in-Ok.times c.judged.result
    (subst (λ e. IsTimed c.args.task.now (code_of_image c.args.image.now) e c.in-Ok.times) c.unwrap_or-entry.ensures
    (subst (λ code. IsTimed c.args.task.now code c.unwrap_or-entry.result c.in-Ok.times) c.requires.is c.in-Ok.ensures.ok))
    c.judged.ensures

pub returns-in-Err : goal.returns-in-Err
returns-in-Err c =
    refused_is c.args.mode c.args.task.now c.args.image.now c.in-Err.refusal
    (subst (λ e. IsRefused c.args.task.now (code_of_image c.args.image.now) e c.in-Err.refusal) c.unwrap_or-entry.ensures
    (subst (λ code. IsRefused c.args.task.now code c.unwrap_or-entry.result c.in-Err.refusal) c.requires.is c.in-Err.ensures.refused))
