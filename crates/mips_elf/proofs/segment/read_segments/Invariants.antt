use Rattle.std.proofs.Common.{◌≡◌}
use Rattle.mips_elf.specs.Segments.{segments_from}
use Rattle.mips_elf.proofs.segment.read_segments.Given as goal

abbrev pub invariant-loop-k : goal.invariant-loop-k
invariant-loop-k l = l.segments.items ≡ segments_from l.big l.bytes l.at l.k
