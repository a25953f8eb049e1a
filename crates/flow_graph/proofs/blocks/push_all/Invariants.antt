use Rattle.std.proofs.Common.{◌≡◌, ◌++◌}
use Rattle.flow_graph.specs.Blocks.{starts_upto}
use Rattle.flow_graph.proofs.blocks.push_all.Given as goal

abbrev pub invariant-loop-place : goal.invariant-loop-place
invariant-loop-place l = l.starts.items ≡ l.initial.starts.items ++ starts_upto l.units l.sites l.places l.place-index
