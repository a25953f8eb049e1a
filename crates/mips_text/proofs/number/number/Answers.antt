use Rattle.std.proofs.Common.{◌∙◌, sym, arith}
use Rattle.mips_text.proofs.NumbersRead.{no_bytes, no_digit, too_low, too_high, number_read}
use Rattle.mips_text.proofs.number.number.Goals as goal

pub returns-in_default-clause-fault : goal.returns-in_default-clause-fault
returns-in_default-clause-fault c = no_bytes c.args.least c.args.most c.requires.low c.requires.some (omega arith) c.args.text.now c.in_default.len_below

pub returns-then-not-is_ascii_digit-clause-fault : goal.returns-then-not-is_ascii_digit-clause-fault
returns-then-not-is_ascii_digit-clause-fault c = no_digit c.args.least c.args.most c.requires.low c.requires.some (omega arith) c.args.text.now (sym c.is_ascii_digit.ensures.value ∙ c.if-not-is_ascii_digit.true)

pub returns-then-value-least-clause-fault : goal.returns-then-value-least-clause-fault
returns-then-value-least-clause-fault c = too_low c.args.least c.args.most c.requires.low c.requires.some (omega arith) c.args.text.now (omega arith)

pub returns-then-most-value-clause-fault : goal.returns-then-most-value-clause-fault
returns-then-most-value-clause-fault c = too_high c.args.least c.args.most c.requires.low c.requires.some (omega arith) c.args.text.now (omega arith)

pub returns-clause-found : goal.returns-clause-found
returns-clause-found c =
    number_read c.args.least c.args.most c.requires.low c.requires.some (omega arith) c.args.text.now c.from-value.result c.longest.result.0 c.longest.result.1.now c.in-len1-up.len_at_least (sym c.is_ascii_digit.ensures.value ∙ c.if-not-is_ascii_digit.false) c.from-value.ensures c.if-value-least.false c.longest.ensures.low c.longest.ensures.high c.longest.ensures.is c.longest.ensures.longest
