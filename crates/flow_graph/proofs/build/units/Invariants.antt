use Rattle.std.proofs.Common.{◌≡◌}
use Rattle.flow_graph.specs.Build.{units_upto}
use Rattle.flow_graph.proofs.build.units.Given as goal

abbrev pub invariant-loop-place : goal.invariant-loop-place
invariant-loop-place l = l.units.items ≡ units_upto l.sites l.places l.place-index
