use Rattle.std.proofs.Common.{◌≡◌, ◌<◌, ◌+◌, ◌^◌, drop}
use Rattle.frequency_pick.specs.Choice.{all_in_time}
use Rattle.frequency_pick.specs.Counts.{predicted_by}
use Rattle.frequency_pick.proofs.choosing.is_in_time.Given as goal

abbrev pub invariant-loop-i : goal.invariant-loop-i
invariant-loop-i l =
    (all_in_time (predicted_by l.h) l.plan.period_ps (l.i + 1) l.sum (drop l.i l.plan.checkpoint_ps)
    ≡ all_in_time (predicted_by l.h) l.plan.period_ps 1 0 l.plan.checkpoint_ps)
    × (l.sum < 2 ^ 64)
