use Rattle.mips_text.specs.Beginnings.{IsInstrText}
use Rattle.mips_text.specs.Faults.{IsFault}
use Rattle.mips_text.specs.Templates.{IsAmongFirst}
use Rattle.mips_text.proofs.parsing.any_of.Given as goal

abbrev pub invariant-loop-template : goal.invariant-loop-template
invariant-loop-template l = IsFault (IsInstrText l.at) (IsAmongFirst l.templates l.template-index l.at) l.text l.last
