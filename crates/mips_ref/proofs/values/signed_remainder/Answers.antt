use Rattle.std.proofs.Common.{arith, rules}
use Rattle.mips_ref.proofs.Signed.{remainder_is}
use Rattle.mips_ref.proofs.values.signed_remainder.Goals as goal

pub returns : goal.returns
returns c =
    remainder_is c.args.a c.args.b c.cast_unsigned.result c.cast_signed.result c.cast_signed-2.result c.wrapping_rem.result
    (omega arith) (omega arith) c.cast_signed.ensures c.cast_signed-2.ensures (search rules) c.wrapping_rem.ensures c.cast_unsigned.ensures
