use Rattle.mips_ref.proofs.Next.{goes_on_plain, next_pc_plain}
use Rattle.mips_ref.proofs.Steps.{went-pc}
use Rattle.mips_ref.proofs.laws.next_pc.Goals as goal

pub returns-clause-act : goal.returns-clause-act
returns-clause-act c = goes_on_plain

pub returns-clause-pc : goal.returns-clause-pc
returns-clause-pc c = went-pc

pub returns-clause-next : goal.returns-clause-next
returns-clause-next c = next_pc_plain
