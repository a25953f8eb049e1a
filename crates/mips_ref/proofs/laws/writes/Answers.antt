use Rattle.mips_ref.proofs.Changed.{kept-name, written-name}
use Rattle.mips_ref.proofs.StepGives.{retired-gives}
use Rattle.mips_ref.proofs.laws.writes.Goals as goal

pub returns-clause-gives : goal.returns-clause-gives
returns-clause-gives c = retired-gives

pub returns-clause-written : goal.returns-clause-written
returns-clause-written c = written-name

pub returns-clause-kept : goal.returns-clause-kept
returns-clause-kept c = kept-name
