use Rattle.std.proofs.Common.{take}
use Rattle.std.specs.List.{AllByRecursion}
use Rattle.mips_elf.specs.Segments.{IsFound, IsSeen}
use Rattle.mips_elf.proofs.overlap.least_refused.Given as goal

-- what was found is refused, and is at most the candidates so far
abbrev pub invariant-loop-s : goal.invariant-loop-s
invariant-loop-s l = IsFound l.loads l.least × AllByRecursion (IsSeen l.loads l.least) (take l.s-index l.loads)
