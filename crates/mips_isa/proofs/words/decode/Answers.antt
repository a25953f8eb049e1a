use Rattle.std.proofs.Common.{◌∙◌}
use Rattle.mips_isa.proofs.Relation.{decoded, read_of-decode_of, undecoded}
use Rattle.mips_isa.proofs.words.decode.Goals as goal

pub returns-clause-value : goal.returns-clause-value
returns-clause-value c = c.read.ensures ∙ read_of-decode_of c.args.word

pub returns-clause-found : goal.returns-clause-found
returns-clause-found c = decoded c.args.word c.read.result (c.read.ensures ∙ read_of-decode_of c.args.word)

pub returns-clause-none : goal.returns-clause-none
returns-clause-none c = undecoded c.args.word c.read.result (c.read.ensures ∙ read_of-decode_of c.args.word)
