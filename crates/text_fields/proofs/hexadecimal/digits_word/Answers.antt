use Rattle.std.proofs.Common.{◌≡◌, ◌+◌, ◌*◌, ◌∙◌, true, ap, get_or, arith, rules}
use Rattle.text_fields.specs.Numbers.{is_hex_digit}
use Rattle.text_fields.proofs.Digits.{all_more, hex_more, hex_whole, sixteen_more, sixteen_room}
use Rattle.text_fields.proofs.hexadecimal.digits_word.Goals as goal

pub overflow_mul-sum : goal.overflow_mul-sum
overflow_mul-sum c =
    let low = sixteen_room c.loop-c.sum c.loop-c.c-index (omega (arith, c.requires)) c.loop-c.invariant.low in
    omega arith

pub overflow_add-sum : goal.overflow_add-sum
overflow_add-sum c =
    let low = sixteen_room c.loop-c.sum c.loop-c.c-index (omega (arith, c.requires)) c.loop-c.invariant.low in
    omega (arith, c.hex_digit_value.ensures.low)

pub loop-c-preserved : goal.loop-c-preserved
loop-c-preserved c =
    let f = c.args.digits.now in
    let i = c.loop-c.c-index in
    let digit : is_hex_digit (get_or f i 0) ≡ true = search rules in
    record {
      digits = all_more is_hex_digit f i c.loop-c-test.true c.loop-c.invariant.digits digit;
      sum = ap (λ n. c.loop-c.sum * 16 + n) c.hex_digit_value.ensures.value ∙ hex_more f i c.loop-c.sum c.loop-c-test.true c.loop-c.invariant.sum;
      low = sixteen_more c.loop-c.sum i c.hex_digit_value.result c.loop-c.invariant.low c.hex_digit_value.ensures.low;
    }

pub returns : goal.returns
returns c = hex_whole c.args.digits.now c.loop-c.c-index c.loop-c.sum c.loop-c-test.false c.loop-c.invariant.digits c.loop-c.invariant.sum
