use Rattle.admitted_jobs.proofs.Jobs.{cuts_in, inside_below, suffix_ends}
use Rattle.admitted_jobs.proofs.laws.every_suffix_is_in_time.Goals as goal

pub returns-clause-ends : goal.returns-clause-ends
returns-clause-ends c = λ mode t i times x point n limits admitted job below went. suffix_ends mode t i times x point n limits admitted (cuts_in mode t i times admitted) job below went

pub returns-clause-inside : goal.returns-clause-inside
returns-clause-inside c = inside_below
