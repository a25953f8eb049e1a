use Rattle.std.proofs.Common.{sym, subst, ◌<◌, List, slice_index, ◌/◌, ◌%◌, ℕ}
use Rattle.checkpoint_plan.specs.Limits.{AreBounds}
use Rattle.checkpoint_plan.specs.Plan.{IsPlan, owed_of}
use Rattle.admission.specs.Rows.{rows_of}
use Rattle.admission.proofs.Pairs.{all_rows, late_of, plan_passed, plan_put}
use Rattle.admission.proofs.planning.set_plan.Goals as goal

pub checkpoints-requires-clause-bounds : goal.checkpoints-requires-clause-bounds
checkpoints-requires-clause-bounds c =
    subst AreBounds (sym c.row_at.ensures) (all_rows c.args.bounds.now c.args.points c.args.k c.requires.beside c.requires.pair c.requires.rows)

pub returns-in-Ok : goal.returns-in-Ok
returns-in-Ok c =
    plan_put c.args.task.now (rows_of c.args.bounds.now) c.args.points c.args.k c.args.plans.now c.set.new.self c.in-Ok.plan c.requires.before c.requires.pair
    (subst (λ (row : List ℕ). IsPlan c.args.task.now row (c.args.k / c.args.points) (c.args.k % c.args.points)
    (slice_index c.args.task.now.points (c.args.k / c.args.points)) (slice_index c.args.task.now.points (c.args.k % c.args.points)) c.in-Ok.plan) c.row_at.ensures c.in-Ok.ensures)
    c.set.ensures.points c.set.ensures.plans

pub returns-in-Err-Negative : goal.returns-in-Err-Negative
returns-in-Err-Negative c =
    plan_passed c.args.task.now (rows_of c.args.bounds.now) c.args.points c.args.k c.args.plans.now c.requires.before
    (subst (λ (row : List ℕ). c.args.task.now.deadline_ps < owed_of c.args.task.now.machine (slice_index c.args.task.now.points (c.args.k / c.args.points))
    (slice_index c.args.task.now.points (c.args.k % c.args.points)) row) c.row_at.ensures (late_of c.args.task.now c.row_at.result.now (c.args.k / c.args.points) (c.args.k % c.args.points)
    (slice_index c.args.task.now.points (c.args.k / c.args.points)) (slice_index c.args.task.now.points (c.args.k % c.args.points))
    c.in-Err-Negative.field-0 c.in-Err-Negative.field-0-0 c.in-Err-Negative.field-0-is c.in-Err-Negative.ensures))
