use Rattle.std.proofs.Common.{◌≡◌, ◌-◌, map, take}
use Rattle.checkpoint_plan.proofs.plan.checkpoint_times.Given as goal

abbrev pub invariant-loop-rem : goal.invariant-loop-rem
invariant-loop-rem l = l.list ≡ map (λ rem. l.left - rem) (take l.rem-index l.rems)
