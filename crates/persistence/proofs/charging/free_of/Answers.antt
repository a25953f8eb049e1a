use Rattle.persistence.proofs.Counting.{free_of_is}
use Rattle.persistence.proofs.charging.free_of.Goals as goal

pub returns : goal.returns
returns c = free_of_is _ _ _ _ c.in_ok-free.free.items _ c.in_ok-free.ensures c.sort_unstable.ensures.permutation c.sort_unstable.ensures.sorted
