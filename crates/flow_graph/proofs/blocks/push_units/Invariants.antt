use Rattle.std.proofs.Common.{◌≡◌, ◌++◌, take}
use Rattle.std.specs.List.{filter}
use Rattle.flow_graph.specs.Own.{is_among}
use Rattle.flow_graph.proofs.blocks.push_units.Given as goal

abbrev pub invariant-loop-at : goal.invariant-loop-at
invariant-loop-at l = l.starts.items ≡ l.initial.starts.items ++ filter (is_among l.units) (take l.at-index l.extra)
