use Rattle.std.proofs.Common.{refl}
use Rattle.visa_cli.specs.Stages.{plan}
use Rattle.visa_cli.proofs.Chains.{ran_stops, ran_then, ran_then_still}
use Rattle.visa_cli.proofs.stages.plan_named.Goals as goal

pub returns-in-Err-clause-ran : goal.returns-in-Err-clause-ran
unfolding plan
returns-in-Err-clause-ran g c = ran_stops c.in-Err.ensures.ran

pub returns-in-Ok-jobs_named-clause-ran : goal.returns-in-Ok-jobs_named-clause-ran
unfolding plan
returns-in-Ok-jobs_named-clause-ran g c = ran_then _ c.in-Ok.ensures.ran (ran_then_still _ c.in-Ok-jobs_named.ensures.ran (refl, c.plan_of.ensures.answer))

pub returns-in-Err-jobs_named-clause-ran : goal.returns-in-Err-jobs_named-clause-ran
unfolding plan
returns-in-Err-jobs_named-clause-ran g c = ran_then _ c.in-Ok.ensures.ran (ran_stops c.in-Err-jobs_named.ensures.ran)
