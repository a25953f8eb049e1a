use Rattle.std.proofs.Common.{arith, rules}
use Rattle.mips_ref.proofs.Signed.{quotient_is}
use Rattle.mips_ref.proofs.values.signed_quotient.Goals as goal

pub returns : goal.returns
returns c =
    quotient_is c.args.a c.args.b c.cast_unsigned.result c.cast_signed.result c.cast_signed-2.result c.wrapping_div.result
    (omega arith) (omega arith) c.cast_signed.ensures c.cast_signed-2.ensures (search rules) c.wrapping_div.ensures c.cast_unsigned.ensures (search rules)
