use Rattle.std.proofs.Common.{ℕ, ◌<◌}
use Rattle.range_facts.specs.Ranges.{IsWithin}
use Rattle.range_facts.specs.Transfer.{fact_of}
use Rattle.bound_checker.specs.Lost.{fact_over, mask_of}
use Rattle.bound_checker.proofs.lost.least_lost.Given as goal

abbrev pub invariant-loop-r : goal.invariant-loop-r
invariant-loop-r l = (r : ℕ) → r < l.r → IsWithin (fact_over (mask_of l.masks.functions.items l.masks.marks.items) l.callee l.f r) (fact_of l.target r)
