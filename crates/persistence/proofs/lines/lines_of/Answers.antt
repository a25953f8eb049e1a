use Rattle.persistence.proofs.Counting.{each_once_of}
use Rattle.persistence.proofs.lines.lines_of.Goals as goal

pub returns : goal.returns
returns c = each_once_of _ c.in_ok-lines.lines.items _ _ c.in_ok-lines.ensures c.sort_unstable.ensures.permutation c.sort_unstable.ensures.sorted c.dedup.ensures.filtered
