use Rattle.std.proofs.Common.{◌≡◌, ◌+◌, drop}
use Rattle.mips_ref.specs.Memory.{total_len}
use Rattle.mips_ref.proofs.layout.total_len.Given as goal

abbrev pub invariant-loop-s : goal.invariant-loop-s
invariant-loop-s l = l.total + total_len (drop l.s-index l.spans) ≡ total_len l.spans
