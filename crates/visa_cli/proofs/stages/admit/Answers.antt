use Rattle.std.proofs.Common.{refl, [], Ok, Err, inl}
use Rattle.visa_cli.specs.Admission.{AdmitsOn}
use Rattle.visa_cli.specs.Stage.{still}
use Rattle.visa_cli.specs.Stages.{admitted, laid_out, refusal_status}
use Rattle.visa_cli.proofs.Chains.{still_then}
use Rattle.visa_cli.proofs.Headline.{fit_admitted}
use Rattle.visa_cli.proofs.stages.admit.Goals as goal

pub returns-in-Err-clause-outcome : goal.returns-in-Err-clause-outcome
unfolding admitted
returns-in-Err-clause-outcome c = inl c.in-Err.ensures.outcome

pub returns-in-Ok-admit_on-clause-outcome : goal.returns-in-Ok-admit_on-clause-outcome
unfolding admitted
returns-in-Ok-admit_on-clause-outcome c =
    still_then (laid_out c.args.task c.args.image.now) (λ m. still (AdmitsOn c.args.mode c.args.task c.args.image.now m) refusal_status) c.in-Ok.memory
    (Ok c.in-Ok-admit_on.admitted) c.in-Ok.ensures.outcome (refl, c.in-Ok-admit_on.ensures)

pub returns-in-Ok-admit_on-clause-fit : goal.returns-in-Ok-admit_on-clause-fit
unfolding admitted
returns-in-Ok-admit_on-clause-fit c =
    fit_admitted c.args.mode c.args.task c.args.image.now [] c.in-Ok-admit_on.admitted c.requires.limits
    (still_then (laid_out c.args.task c.args.image.now) (λ m. still (AdmitsOn c.args.mode c.args.task c.args.image.now m) refusal_status) c.in-Ok.memory
    (Ok c.in-Ok-admit_on.admitted) c.in-Ok.ensures.outcome (refl, c.in-Ok-admit_on.ensures))

pub returns-in-Err-admit_on-clause-outcome : goal.returns-in-Err-admit_on-clause-outcome
unfolding admitted
returns-in-Err-admit_on-clause-outcome c =
    still_then (laid_out c.args.task c.args.image.now) (λ m. still (AdmitsOn c.args.mode c.args.task c.args.image.now m) refusal_status) c.in-Ok.memory
    (Err c.refusal_status.result) c.in-Ok.ensures.outcome (refl, (c.in-Err-admit_on.refusal, c.in-Err-admit_on.ensures, c.refusal_status.ensures))
