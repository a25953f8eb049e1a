use Rattle.std.proofs.Common.{arith, ap, ◌∙◌, ◌+◌, length, drop, get_or, List, ℕ}
use Rattle.std.proofs.Math.Nat.{div-le_self}
use Rattle.frequency_pick.specs.Choice.{all_in_time}
use Rattle.frequency_pick.specs.Counts.{predicted_by}
use Rattle.frequency_pick.proofs.InTime.{never, late, on_time}
use Rattle.frequency_pick.proofs.choosing.is_in_time.Goals as goal

pub returns-in-None : goal.returns-in-None
returns-in-None c =
    let long = ap (λ (l : List ℕ). length l) c.as_slice-checkpoint-items.ensures in
    never (predicted_by c.args.h.now) c.args.plan.now.period_ps (c.loop-i.i + 1) c.loop-i.sum c.args.plan.now.checkpoint_ps c.loop-i.i _
    (omega (arith, c.loop-i-test.true, long)) c.in-None.ensures c.loop-i.invariant.0

pub returns-then-sum-from : goal.returns-then-sum-from
returns-then-sum-from c =
    let long = ap (λ (l : List ℕ). length l) c.as_slice-checkpoint-items.ensures in
    late (predicted_by c.args.h.now) c.args.plan.now.period_ps (c.loop-i.i + 1) c.loop-i.sum c.args.plan.now.checkpoint_ps c.loop-i.i
    (get_or c.as_slice-checkpoint-items.result.now c.loop-i.i 0) c.in-Some.n _ c.requires.period (omega (arith, c.loop-i-test.true, long))
    (ap (λ (l : List ℕ). get_or l c.loop-i.i 0) c.as_slice-checkpoint-items.ensures) c.in-Some.ensures
    (omega (arith, c.if-sum-from.true, c.from.ensures, c.from-sum.ensures)) c.loop-i.invariant.0

pub loop-i-preserved : goal.loop-i-preserved
loop-i-preserved c =
    let long = ap (λ (l : List ℕ). length l) c.as_slice-checkpoint-items.ensures in
    let met = on_time (predicted_by c.args.h.now) c.args.plan.now.period_ps (c.loop-i.i + 1) c.loop-i.sum c.args.plan.now.checkpoint_ps c.loop-i.i
    (get_or c.as_slice-checkpoint-items.result.now c.loop-i.i 0) c.in-Some.n _ c.requires.period (omega (arith, c.loop-i-test.true, long))
    (ap (λ (l : List ℕ). get_or l c.loop-i.i 0) c.as_slice-checkpoint-items.ensures) c.in-Some.ensures
    (omega (arith, c.if-sum-from.false, c.from.ensures, c.from-sum.ensures)) c.loop-i.invariant.0 in
    let small = div-le_self (get_or c.as_slice-checkpoint-items.result.now c.loop-i.i 0) c.args.plan.now.period_ps in
    let fits = c.type_inv.checkpoint-items c.loop-i.i in (
      ap (λ (m : ℕ). all_in_time (predicted_by c.args.h.now) c.args.plan.now.period_ps (c.loop-i.i + 1 + 1) (c.loop-i.sum + m) (drop (c.loop-i.i + 1) c.args.plan.now.checkpoint_ps)) c.from-sum.ensures ∙ met,
      omega (arith, c.if-sum-from.false, c.from.ensures, small, fits),
    )
