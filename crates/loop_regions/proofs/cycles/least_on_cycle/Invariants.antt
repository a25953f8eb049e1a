use Rattle.std.proofs.Common.{ℕ, ◌<◌}
use Rattle.loop_regions.specs.Cycles.{IsAhead}
use Rattle.loop_regions.proofs.cycles.least_on_cycle.Given as goal

abbrev pub invariant-loop-u : goal.invariant-loop-u
invariant-loop-u l = (v : ℕ) → v < l.u → IsAhead l.ways v v → ⊥
