use Rattle.std.proofs.Common.{List, ℕ}
use Rattle.remaining_wcet.proofs.Final.{suffix_ends}
use Rattle.remaining_wcet.proofs.laws.every_suffix_ends.Goals as goal

pub returns : goal.returns
returns c = λ t units w slow fast cap bounds fast_bounds k a p kept entry cuts is. suffix_ends t units w slow fast cap bounds fast_bounds k a p kept entry cuts is {S = List ℕ}
