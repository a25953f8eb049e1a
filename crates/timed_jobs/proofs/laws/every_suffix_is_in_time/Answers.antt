use Rattle.timed_jobs.proofs.Ends.{suffix_in_time}
use Rattle.timed_jobs.proofs.laws.every_suffix_is_in_time.Goals as goal

pub returns : goal.returns
returns c = suffix_in_time
