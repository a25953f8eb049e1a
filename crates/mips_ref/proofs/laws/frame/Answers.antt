use Rattle.mips_ref.proofs.Changed.{memory-kept, name-kept}
use Rattle.mips_ref.proofs.Frame.{run_code, run_keeps}
use Rattle.mips_ref.proofs.StoredOnly.{stored-only}
use Rattle.mips_ref.proofs.Steps.{stays_put}
use Rattle.mips_ref.proofs.laws.frame.Goals as goal

pub returns-clause-names : goal.returns-clause-names
returns-clause-names c = name-kept

pub returns-clause-memory : goal.returns-clause-memory
returns-clause-memory c = memory-kept

pub returns-clause-code : goal.returns-clause-code
returns-clause-code c = run_code

pub returns-clause-stays : goal.returns-clause-stays
returns-clause-stays c = stays_put

pub returns-clause-bytes : goal.returns-clause-bytes
returns-clause-bytes c = stored-only

pub returns-clause-spans : goal.returns-clause-spans
returns-clause-spans c = λ n x. (run_keeps n x).spans_are
