use Rattle.mips_isa.proofs.Relation.{decode_of-encode_of}
use Rattle.mips_isa.proofs.words.encode.Goals as goal

pub returns-clause-inverse : goal.returns-clause-inverse
returns-clause-inverse c = rw c.write.ensures (decode_of-encode_of c.args.i c.requires)
