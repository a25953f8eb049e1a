use Rattle.std.proofs.Common.{◌≡◌, ◌+◌, ◌++◌, drop}
use Rattle.mips_ref.specs.Held.{firsts_from}
use Rattle.mips_ref.specs.Memory.{total_len}
use Rattle.mips_ref.proofs.layout.firsts.Given as goal

abbrev pub invariant-loop-s : goal.invariant-loop-s
invariant-loop-s l = (l.firsts.items ++ firsts_from l.before (drop l.s-index l.spans) ≡ firsts_from 0 l.spans)
    × (l.before + total_len (drop l.s-index l.spans) ≡ total_len l.spans)
