use Rattle.std.proofs.Common.{◌≡◌, map, take}
use Rattle.mips_elf.specs.Images.{span_of}
use Rattle.mips_elf.proofs.load.spans.Given as goal

abbrev pub invariant-loop-s : goal.invariant-loop-s
invariant-loop-s l = l.spans ≡ map span_of (take l.s-index l.loads)
