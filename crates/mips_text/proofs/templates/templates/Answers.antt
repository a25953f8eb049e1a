use Rattle.mips_text.proofs.Names.{all_there}
use Rattle.mips_text.proofs.templates.templates.Goals as goal

pub returns : goal.returns
returns c i = all_there i
