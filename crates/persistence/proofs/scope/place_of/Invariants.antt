use Rattle.std.proofs.Common.{◌-◌, map}
use Rattle.persistence.specs.Counts.{IsNarrowed}
use Rattle.persistence.proofs.scope.place_of.Given as goal

abbrev pub invariant-loop-low : goal.invariant-loop-low
invariant-loop-low l = IsNarrowed (map (λ unit. unit.at) l.units) l.u l.low l.high

abbrev pub decreases-loop-low : goal.decreases-loop-low
decreases-loop-low l = l.high - l.low
