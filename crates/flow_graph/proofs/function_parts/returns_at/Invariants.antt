use Rattle.std.proofs.Common.{◌≡◌}
use Rattle.flow_graph.specs.FunctionParts.{returns_upto}
use Rattle.flow_graph.proofs.function_parts.returns_at.Given as goal

abbrev pub invariant-loop-place : goal.invariant-loop-place
invariant-loop-place l = l.found.items ≡ returns_upto l.addresses l.sites l.places l.place-index
