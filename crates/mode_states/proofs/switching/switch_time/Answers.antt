use Rattle.std.proofs.Common.{◌*◌, ap, arith}
use Rattle.checkpoint_plan.specs.Plan.{switch_of}
use Rattle.mode_states.proofs.SmallParts.{small_parts}
use Rattle.mode_states.proofs.switching.switch_time.Goals as goal

pub overflow_mul-result : goal.overflow_mul-result
overflow_mul-result c = omega (arith, (small_parts _ _ _ _ c.requires.small c.requires.pb).waited)

pub overflow_add-result : goal.overflow_add-result
overflow_add-result c = omega (arith, (small_parts _ _ _ _ c.requires.small c.requires.pb).settled)

pub handover-requires : goal.handover-requires
handover-requires c = (small_parts _ _ _ _ c.requires.small c.requires.pb).handed

pub overflow_mul-result-2 : goal.overflow_mul-result-2
overflow_mul-result-2 c = omega
    (arith, ap (λ n. n * c.args.pb) c.handover.ensures, (small_parts _ _ _ _ c.requires.small c.requires.pb).handed_ps)

pub overflow_add-result-2 : goal.overflow_add-result-2
overflow_add-result-2 c = omega
    (arith, ap (λ n. n * c.args.pb) c.handover.ensures, (small_parts _ _ _ _ c.requires.small c.requires.pb).all)

pub returns : goal.returns
unfolding switch_of
returns c = omega (arith, ap (λ n. n * c.args.pb) c.handover.ensures)
