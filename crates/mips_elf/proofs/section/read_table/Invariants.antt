use Rattle.std.proofs.Common.{◌≡◌}
use Rattle.mips_elf.specs.Symbols.{sections_from}
use Rattle.mips_elf.proofs.section.read_table.Given as goal

abbrev pub invariant-loop-k : goal.invariant-loop-k
invariant-loop-k l = l.sections.items ≡ sections_from l.big l.bytes l.at l.k
