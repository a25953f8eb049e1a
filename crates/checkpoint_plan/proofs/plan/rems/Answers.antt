use Rattle.std.proofs.Common.{◌+◌, ◌<◌, ◌^◌, refl, arith}
use Rattle.std.proofs.Math.Nat.{mul-le-mul}
use Rattle.checkpoint_plan.proofs.Rems.{rem_put, rems_put, left_falls, left_small}
use Rattle.checkpoint_plan.proofs.plan.rems.Goals as goal

pub overflow_add-left : goal.overflow_add-left
overflow_add-left c =
    let small = left_small c.args.bounds.now c.loop-bound.bound-index c.loop-bound.left (2 ^ 70) c.loop-bound.invariant.0 (omega (arith, c.sum_of-left.ensures.value, c.sum_of-left.ensures.small)) in omega (arith, small)

pub overflow_mul-left : goal.overflow_mul-left
overflow_mul-left c =
    let small : c.loop-bound.left < 2 ^ 70 = left_small c.args.bounds.now c.loop-bound.bound-index c.loop-bound.left (2 ^ 70) c.loop-bound.invariant.0 (omega (arith, c.sum_of-left.ensures.value, c.sum_of-left.ensures.small)) in
    let product = mul-le-mul {n₁ = 5 + c.loop-bound.left} {m₁ = c.from.result} {n₂ = 2 ^ 71} {m₂ = 10 ^ 6} (omega (arith, small)) (omega (arith, c.from.ensures, c.requires.pb.most)) in
    omega (arith, product)

pub loop-bound-preserved : goal.loop-bound-preserved
loop-bound-preserved c = (
  left_falls _ _ _ _ c.loop-bound-test.true c.loop-bound.invariant.0 c.from-left.ensures,
  rem_put _ _ _ _ _ _ _ _ c.loop-bound-test.true c.loop-bound.invariant.0 c.from.ensures refl c.in_ok-push.ensures.ok c.loop-bound.invariant.1,
)

pub returns : goal.returns
returns c = rems_put _ _ _ _ c.loop-bound-test.false c.loop-bound.invariant.1
