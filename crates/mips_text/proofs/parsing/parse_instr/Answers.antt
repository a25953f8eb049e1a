use Rattle.std.proofs.Common.{ap, arith, refl, Ok}
use Rattle.mips_text.proofs.TemplatesRead.{column_of, column_small, none_told, text_same}
use Rattle.mips_text.proofs.parsing.parse_instr.Goals as goal

pub overflow_cast-result : goal.overflow_cast-result
overflow_cast-result c = record { fits = omega (arith, column_small c.args.at c.args.text.now c.in-Err.rest.now c.in-Err.ensures.fault) }

pub overflow_add-result : goal.overflow_add-result
overflow_add-result c = record { fits = omega (arith, column_small c.args.at c.args.text.now c.in-Err.rest.now c.in-Err.ensures.fault) }

pub returns-in-Ok-clause-only : goal.returns-in-Ok-clause-only
returns-in-Ok-clause-only c i p = ap Ok (text_same c.args.at c.args.text.now c.in-Ok.i i c.requires c.in-Ok.ensures.found p)

pub returns-in-Err-clause-only : goal.returns-in-Err-clause-only
returns-in-Err-clause-only c i p = absurd (none_told c.args.at c.args.text.now c.in-Err.rest.now c.in-Err.ensures.fault i p)

pub returns-in-Err-clause-fault : goal.returns-in-Err-clause-fault
returns-in-Err-clause-fault c = column_of c.args.at c.args.text.now c.in-Err.rest.now _ c.in-Err.ensures.fault refl
