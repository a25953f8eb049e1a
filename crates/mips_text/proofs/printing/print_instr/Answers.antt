use Rattle.mips_text.proofs.Lengths.{printed}
use Rattle.mips_text.proofs.printing.print_instr.Goals as goal

pub returns : goal.returns
returns c = printed c.args.i c.args.at c.new-text.result c.push_all.new.self c.push.new.self c.put_operands.new.text c.name.result.now c.requires c.new-text.ensures c.push_all.ensures c.name.ensures c.push.ensures c.put_operands.ensures
