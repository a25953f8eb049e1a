use Rattle.std.proofs.Common.{ℕ, ◌<◌}
use Rattle.loop_regions.specs.Regions.{IsSideAt}
use Rattle.loop_regions.proofs.nest.first_entry.Given as goal

abbrev pub invariant-loop-k : goal.invariant-loop-k
invariant-loop-k l = (j : ℕ) → j < l.k → (from to : ℕ) → IsSideAt l.g l.regions j from to → ⊥
