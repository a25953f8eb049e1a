use Rattle.std.proofs.Common.{List, ℕ}
use Rattle.remaining_wcet.proofs.Final.{opening_ends}
use Rattle.remaining_wcet.proofs.laws.every_job_ends.Goals as goal

pub returns : goal.returns
returns c = λ t units w slow fast cap bounds fast_bounds k a p kept. opening_ends t units w slow fast cap bounds fast_bounds k a p kept {S = List ℕ}
