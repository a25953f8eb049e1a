use Rattle.std.proofs.Common.{◌≡◌, take}
use Rattle.mips_elf.specs.Images.{contents_of}
use Rattle.mips_elf.proofs.load.contents.Given as goal

abbrev pub invariant-loop-s : goal.invariant-loop-s
invariant-loop-s l = l.all.items ≡ contents_of l.bytes (take l.s-index l.loads)
