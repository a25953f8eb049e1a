use Rattle.std.proofs.Common.{◌≡◌}
use Rattle.flow_graph.specs.Own.{least_upto}
use Rattle.flow_graph.proofs.faults.least_address.Given as goal

abbrev pub invariant-loop-place : goal.invariant-loop-place
invariant-loop-place l = l.best ≡ least_upto l.sites l.places l.units l.flaw l.place-index
