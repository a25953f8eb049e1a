use Rattle.mips_ref.proofs.ReadNames.{acted-reads}
use Rattle.mips_ref.proofs.StepReads.{outcome-reads}
use Rattle.mips_ref.proofs.laws.reads.Goals as goal

pub returns-clause-acts : goal.returns-clause-acts
returns-clause-acts c = acted-reads

pub returns-clause-outcome : goal.returns-clause-outcome
returns-clause-outcome c = outcome-reads
