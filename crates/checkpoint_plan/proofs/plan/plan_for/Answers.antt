use Rattle.std.proofs.Common.{◌∙◌, arith}
use Rattle.checkpoint_plan.proofs.Rems.{owed_left, rems_fit}
use Rattle.checkpoint_plan.proofs.plan.plan_for.Goals as goal

pub overflow_sub-left : goal.overflow_sub-left
overflow_sub-left c =
    let o = owed_left _ _ _ _ _ _ _ c.from.ensures c.overhead-overhead_ps.ensures.value c.requires.owed in
    omega (arith, o.0, c.from-2.ensures)

pub checkpoint_times-requires : goal.checkpoint_times-requires
checkpoint_times-requires c =
    rems_fit _ _ _ _ _ _ _ _ _ c.from.ensures c.overhead-overhead_ps.ensures.value c.requires.owed c.from-2.ensures
    (c.as_slice.ensures ∙ c.in_ok-rem_ps.ensures)
