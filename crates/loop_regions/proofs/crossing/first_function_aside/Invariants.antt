use Rattle.std.proofs.Common.{◌≡◌, ℕ, ◌<◌, false}
use Rattle.std.specs.Prelude.{slice_index_or}
use Rattle.loop_regions.specs.Regions.{begins_aside}
use Rattle.loop_regions.proofs.crossing.first_function_aside.Given as goal

abbrev pub invariant-loop-f : goal.invariant-loop-f
invariant-loop-f l = (k : ℕ) (d : ℕ) → k < l.f-index → begins_aside l.r (slice_index_or l.functions k d) ≡ false
