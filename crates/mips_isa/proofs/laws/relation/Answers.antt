use Rattle.mips_isa.proofs.Relation.{decode_of_word, one_instruction}
use Rattle.mips_isa.proofs.laws.relation.Goals as goal

pub returns-clause-one : goal.returns-clause-one
returns-clause-one c = one_instruction

pub returns-clause-found : goal.returns-clause-found
returns-clause-found c = decode_of_word
