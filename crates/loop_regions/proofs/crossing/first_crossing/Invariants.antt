use Rattle.std.proofs.Common.{◌≡◌, ℕ, ◌<◌, false}
use Rattle.loop_regions.specs.Regions.{crosses_at}
use Rattle.loop_regions.proofs.crossing.first_crossing.Given as goal

abbrev pub invariant-loop-k : goal.invariant-loop-k
invariant-loop-k l = (j : ℕ) → j < l.k → crosses_at l.units l.regions j ≡ false
