use Rattle.std.proofs.Common.{◌≡◌, map, take}
use Rattle.checkpoint_plan.specs.Plan.{watchdog_of}
use Rattle.checkpoint_plan.proofs.plan.watchdogs.Given as goal

abbrev pub invariant-loop-time : goal.invariant-loop-time
invariant-loop-time l = l.list ≡ map (watchdog_of l.pa) (take l.time-index l.times)
