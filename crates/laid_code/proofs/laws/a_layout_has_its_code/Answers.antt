use Rattle.laid_code.proofs.Holding.{has_code_of}
use Rattle.laid_code.proofs.laws.a_layout_has_its_code.Goals as goal

pub returns : goal.returns
returns c = has_code_of
