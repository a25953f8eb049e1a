use Rattle.std.proofs.Common.{◌≡◌}
use Rattle.flow_graph.specs.Calls.{called_upto}
use Rattle.flow_graph.proofs.calls.called.Given as goal

abbrev pub invariant-loop-place : goal.invariant-loop-place
invariant-loop-place l = l.functions.items ≡ called_upto l.net l.places l.place-index
