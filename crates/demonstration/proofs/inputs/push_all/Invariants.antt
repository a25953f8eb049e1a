use Rattle.std.proofs.Common.{◌≡◌, ◌++◌, take}
use Rattle.demonstration.proofs.inputs.push_all.Given as goal

abbrev pub invariant-loop-b : goal.invariant-loop-b
invariant-loop-b l = l.bytes ≡ l.initial.bytes ++ take l.b-index l.more
