use Rattle.std.proofs.Common.{◌∙◌}
use Rattle.mips_text.proofs.laws.parse_print.Goals as goal

pub returns : goal.returns
returns c = c.parse_instr.ensures.only c.args.i (record { fits = c.requires.fits; is = c.as_bytes.ensures ∙ c.print_instr.ensures })
