use Rattle.std.proofs.Common.{sym}
use Rattle.frequency_pick.proofs.Kept.{greatest_some}
use Rattle.frequency_pick.proofs.history.greatest_in.Goals as goal

pub returns : goal.returns
returns c = greatest_some _ _ (sym c.if-is_empty.ensures) c.most_in.ensures
