use Rattle.mips_ref.proofs.Rans.{after_add, ran_add, ran_by_add}
use Rattle.mips_ref.proofs.laws.suffixes.Goals as goal

pub returns-clause-after : goal.returns-clause-after
returns-clause-after c = after_add

pub returns-clause-ran_by : goal.returns-clause-ran_by
returns-clause-ran_by c = ran_by_add

pub returns-clause-ran : goal.returns-clause-ran
returns-clause-ran c = ran_add
