use Rattle.std.proofs.Common.{◌≡◌, false, take}
use Rattle.std.specs.List.{list_any}
use Rattle.flow_graph.specs.Code.{holds}
use Rattle.flow_graph.proofs.making.is_held.Given as goal

abbrev pub invariant-loop-span : goal.invariant-loop-span
invariant-loop-span l = list_any (λ s. holds s l.at) (take l.span-index l.spans) ≡ false
