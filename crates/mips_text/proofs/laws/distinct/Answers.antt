use Rattle.std.proofs.Common.{refl}
use Rattle.mips_text.specs.Operands.{instr_text}
use Rattle.mips_text.proofs.TemplatesRead.{text_same}
use Rattle.mips_text.proofs.laws.distinct.Goals as goal

pub returns : goal.returns
returns c i j at aligned p q same = text_same at (instr_text i at) i j aligned (record { fits = p; is = refl }) (record { fits = q; is = same })
