use Rattle.std.proofs.Common.{◌∙◌, length, arith}
use Rattle.visa_io.proofs.PutLaws.{puts_failed}
use Rattle.log_text.proofs.Counting.{groups_more, groups_stop, groups_whole}
use Rattle.log_text.specs.Check.{bound_lines}
use Rattle.admission.specs.Found.{bounds_at}
use Rattle.visa_cli.specs.Check.{all_bound_lines}
use Rattle.visa_cli.proofs.Telling.{row_put, row_stops}
use Rattle.visa_cli.proofs.checking.put_all_bounds.Goals as goal

pub returns-in_err-put_bounds-clause-puts : goal.returns-in_err-put_bounds-clause-puts
unfolding all_bound_lines
returns-in_err-put_bounds-clause-puts g c =
    let x = c.args.admitted.now in
    puts_failed _ _ _ c.from_residual.result c.from_residual.ensures.0
    (groups_stop (λ point. bound_lines point (bounds_at x.times.bounds point)) (length x.task.points) c.loop-point.point (omega (arith, c.loop-point-test.true, c.len-point-end.ensures))
    c.loop-point.invariant.puts (row_stops c.loop-point.point c.bounds_at.result.now (bounds_at x.times.bounds c.loop-point.point) c.bounds_at.ensures c.in_err-put_bounds.ensures.puts))

pub loop-point-preserved : goal.loop-point-preserved
loop-point-preserved g c =
    let x = c.args.admitted.now in
    record {
      puts = groups_more (λ point. bound_lines point (bounds_at x.times.bounds point)) (length x.task.points) c.loop-point.point (omega (arith, c.loop-point-test.true, c.len-point-end.ensures))
          c.loop-point.invariant.puts (row_put c.loop-point.point c.bounds_at.result.now (bounds_at x.times.bounds c.loop-point.point) c.bounds_at.ensures c.in_ok-put_bounds.ensures.puts);
      room = c.put_bounds.ensures.room ∙ c.loop-point.invariant.room;
    }

pub returns-clause-puts : goal.returns-clause-puts
unfolding all_bound_lines
returns-clause-puts g c =
    let x = c.args.admitted.now in
    groups_whole (λ point. bound_lines point (bounds_at x.times.bounds point)) (length x.task.points) c.loop-point.point
    (omega (arith, c.loop-point-test.false, c.loop-point.auto.point-end, c.len-point-end.ensures)) c.loop-point.invariant.puts
