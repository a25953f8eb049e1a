use Rattle.visa_cli.proofs.Headline.{runnable_of}
use Rattle.visa_cli.proofs.PlanRuns.{log_of}
use Rattle.visa_cli.proofs.laws.plan_has_log.Goals as goal

pub returns : goal.returns
returns c = λ mode kind t j reads p gives. log_of kind p (runnable_of mode t j reads p gives)
