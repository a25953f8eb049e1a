use Rattle.std.proofs.Common.{◌≡◌, drop}
use Rattle.mips_ref.specs.Layout.{first_refused}
use Rattle.mips_ref.proofs.layout.first_refused.Given as goal

abbrev pub invariant-loop-s : goal.invariant-loop-s
invariant-loop-s l = first_refused l.end (drop l.s-index l.spans) ≡ first_refused 0 l.spans
