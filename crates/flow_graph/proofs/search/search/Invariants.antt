use Rattle.std.proofs.Common.{◌+◌, length, if◌then◌else◌, nat_eq, sum_by}
use Rattle.flow_graph.specs.Places.{IsSearch}
use Rattle.flow_graph.proofs.search.search.Given as goal

abbrev pub invariant-loop-place : goal.invariant-loop-place
invariant-loop-place l = IsSearch l.net l.enters l.starts l.stamps.items l.stamp l.found.items l.work.items

abbrev pub decreases-loop-place : goal.decreases-loop-place
decreases-loop-place l = sum_by (λ s. if nat_eq s l.stamp then 0 else 5) l.stamps.items + length l.work.items
