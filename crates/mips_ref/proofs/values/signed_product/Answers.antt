use Rattle.std.proofs.Common.{rules}
use Rattle.mips_ref.proofs.Signed.{product_is}
use Rattle.mips_ref.proofs.values.signed_product.Goals as goal

pub returns : goal.returns
returns c =
    product_is c.args.a c.args.b c.cast_unsigned.result c.cast_signed.result c.cast_signed-2.result c.from.result c.from-2.result
    (search rules) (search rules) c.cast_signed.ensures c.cast_signed-2.ensures c.from.ensures c.from-2.ensures c.cast_unsigned.ensures
