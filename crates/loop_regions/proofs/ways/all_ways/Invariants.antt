use Rattle.std.proofs.Common.{take}
use Rattle.loop_regions.specs.Ways.{inner_edges, IsWay}
use Rattle.std.specs.List.{All}
use Rattle.std.proofs.Common.{◌≡◌, map}
use Rattle.loop_regions.proofs.ways.all_ways.Given as goal

abbrev pub invariant-loop-i : goal.invariant-loop-i
invariant-loop-i l = (map (λ w. w.edge) l.ways.items ≡ inner_edges (take l.i l.edges)) × All (IsWay l.addresses l.edges l.regions) l.ways.items
