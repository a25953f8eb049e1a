use Rattle.std.proofs.Common.{refl}
use Rattle.ooo_clock.proofs.Owed.{owes-none}
use Rattle.ooo_clock.proofs.pending.Pending.none.Goals as goal

pub returns : goal.returns
returns c = λ x. owes-none _ x refl refl
