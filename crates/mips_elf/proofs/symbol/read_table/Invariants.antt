use Rattle.std.proofs.Common.{◌≡◌}
use Rattle.mips_elf.specs.Symbols.{symbols_from}
use Rattle.mips_elf.proofs.symbol.read_table.Given as goal

abbrev pub invariant-loop-k : goal.invariant-loop-k
invariant-loop-k l = l.symbols ≡ symbols_from l.big l.bytes l.strings l.table.offset l.k
