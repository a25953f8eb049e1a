use Rattle.visa_cli.proofs.Headline.{runnable_of}
use Rattle.visa_cli.proofs.PlanRuns.{all_in_time}
use Rattle.visa_cli.proofs.laws.in_time.Goals as goal

pub returns : goal.returns
returns c = λ mode kind t j reads p jobs gives are. all_in_time kind p jobs (runnable_of mode t j reads p gives) are
