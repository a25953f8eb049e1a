use Rattle.mips_ref.proofs.StepNext.{parts-plain, trap-plain}
use Rattle.mips_ref.proofs.laws.other_next_pc.Goals as goal

pub returns-clause-trap : goal.returns-clause-trap
returns-clause-trap c = trap-plain

pub returns-clause-parts : goal.returns-clause-parts
returns-clause-parts c = parts-plain
