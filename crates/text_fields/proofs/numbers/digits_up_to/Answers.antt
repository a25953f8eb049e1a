use Rattle.std.proofs.Common.{◌≡◌, ◌+◌, ◌-◌, ◌*◌, ◌∙◌, true, min, get_or, arith, rules}
use Rattle.std.specs.Char.{is_ascii_digit}
use Rattle.text_fields.proofs.Digits.{all_more, capped_more, capped_whole}
use Rattle.text_fields.proofs.numbers.digits_up_to.Goals as goal

pub loop-b-preserved : goal.loop-b-preserved
loop-b-preserved c =
    let f = c.args.digits.now in
    let i = c.loop-b.b-index in
    let digit : is_ascii_digit (get_or f i 0) ≡ true = search rules in
    let sum : c.min-sum.result ≡ min (c.loop-b.sum * 10 + (get_or f i 0 - 48)) c.args.cap = search rules in
    record {
      digits = all_more is_ascii_digit f i c.loop-b-test.true c.loop-b.invariant.digits digit;
      sum = sum ∙ capped_more f i c.loop-b.sum c.args.cap c.loop-b-test.true digit c.loop-b.invariant.sum;
      low = omega (arith, sum);
    }

pub returns : goal.returns
returns c = capped_whole c.args.digits.now c.loop-b.b-index c.loop-b.sum c.args.cap c.loop-b-test.false c.loop-b.invariant.digits c.loop-b.invariant.sum
