use Rattle.std.proofs.Common.{◌≡◌, filter, take}
use Rattle.mips_elf.specs.Segments.{takes_memory}
use Rattle.mips_elf.proofs.segment.memory_segments.Given as goal

abbrev pub invariant-loop-s : goal.invariant-loop-s
invariant-loop-s l = l.loads.items ≡ filter takes_memory (take l.s-index l.segments)
