use Rattle.std.proofs.Common.{arith}
use Rattle.std.proofs.Math.Facts.{Fits-lt-pow}
use Rattle.persistence.proofs.Members.{none_so_large}
use Rattle.persistence.proofs.sorted.is_word_in.Goals as goal

pub returns-in-Err : goal.returns-in-Err
returns-in-Err c = none_so_large c.args.sorted.now c.args.n (λ k h. Fits-lt-pow (c.type_inv.sorted k)) (omega (arith, c.in-Err.ensures))
