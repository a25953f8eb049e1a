use Rattle.mips_ref.proofs.Changed.{late_traps, own_traps}
use Rattle.mips_ref.proofs.laws.late_traps.Goals as goal

pub returns-clause-own : goal.returns-clause-own
returns-clause-own c = own_traps

pub returns-clause-late : goal.returns-clause-late
returns-clause-late c = late_traps
