use Rattle.std.proofs.Common.{◌+◌, ◌*◌, ◌∙◌, sym, arith}
use Rattle.mips_text.proofs.NumbersRead.{one_more}
use Rattle.mips_text.proofs.number.+longest.Goals as goal

pub returns-clause-is : goal.returns-clause-is
returns-clause-is t c =
    one_more c.args.value c.args.text.now (c.from.result * 10 + c.from-2.result) c.longest.result.0 c.longest.result.1.now c.in-len1-up.len_at_least (sym c.is_ascii_digit.ensures.value ∙ c.if-not-is_ascii_digit.false) (omega arith) (omega arith) (omega arith) c.longest.ensures.is
