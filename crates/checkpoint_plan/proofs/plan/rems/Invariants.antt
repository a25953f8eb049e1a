use Rattle.std.proofs.Common.{◌≡◌, ◌++◌, drop, sum}
use Rattle.checkpoint_plan.specs.Plan.{rems_of}
use Rattle.checkpoint_plan.proofs.plan.rems.Given as goal

abbrev pub invariant-loop-bound : goal.invariant-loop-bound
invariant-loop-bound l =
    (l.left ≡ sum (drop l.bound-index l.bounds))
    × (l.list ++ rems_of (drop l.bound-index l.bounds) l.pb ≡ rems_of l.bounds l.pb)
