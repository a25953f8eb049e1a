use Rattle.std.proofs.Common.{arith}
use Rattle.std.proofs.lemmas.Int.{ints}
use Rattle.text_fields.proofs.Digits.{below_none, below_found}
use Rattle.text_fields.proofs.numbers.below_zero.Goals as goal

pub returns-then-n-eq0 : goal.returns-then-n-eq0
returns-then-n-eq0 c = below_none c.args.field.now c.in-Some.n c.in-Some.ensures c.if-n-eq0.true

pub returns-else-n-eq0 : goal.returns-else-n-eq0
returns-else-n-eq0 c = below_found c.args.field.now c.in-Some.n c.in-Some.ensures c.if-n-eq0.false _ (omega (arith, ints))
