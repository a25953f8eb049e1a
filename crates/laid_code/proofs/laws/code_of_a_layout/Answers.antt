use Rattle.laid_code.proofs.WholeCode.{code_laid_out}
use Rattle.laid_code.proofs.laws.code_of_a_layout.Goals as goal

pub returns : goal.returns
returns c = code_laid_out
