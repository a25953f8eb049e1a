use Rattle.admission.proofs.OneAdmission.{admitted_or_refused, one_refusal, one_times}
use Rattle.admission.proofs.laws.one_admission.Goals as goal

pub returns : goal.returns
returns c = record { times = one_times; refusals = one_refusal; apart = admitted_or_refused }
