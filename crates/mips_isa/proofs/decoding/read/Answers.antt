use Rattle.std.proofs.Common.{◌≡◌, sym, Option, Some, IfSome, subst}
use Rattle.mips_isa.proofs.Relation.{read_of_word}
use Rattle.mips_isa.specs.Encoding.{IsWordOf}
use Rattle.mips_isa.specs.declared.instr.Instr.{Instr}
use Rattle.mips_isa.proofs.decoding.read.Goals as goal

pub returns-in-Some : goal.returns-in-Some
returns-in-Some c = sym (read_of_word c.args.word c.in-Some.i (subst (λ (o : Option Instr). IfSome o (IsWordOf c.args.word)) c.in-Some.is c.usual.ensures))
