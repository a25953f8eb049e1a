use Rattle.std.proofs.Common.{◌∙◌, length, arith}
use Rattle.std.specs.Prelude.{map}
use Rattle.visa_io.proofs.PutLaws.{puts_failed}
use Rattle.log_text.proofs.Counting.{groups_more, groups_stop, groups_whole}
use Rattle.visa_cli.specs.Check.{all_pair_lines, pair_line, points_of}
use Rattle.visa_cli.proofs.checking.put_all_pairs.Goals as goal

pub returns-in_err-put_pairs_with-clause-puts : goal.returns-in_err-put_pairs_with-clause-puts
unfolding all_pair_lines
returns-in_err-put_pairs_with-clause-puts g c =
    let x = c.args.admitted.now in
    puts_failed _ _ _ c.from_residual.result c.from_residual.ensures.0
    (groups_stop (λ a. map (pair_line x.task x.times a) (points_of x.task)) (length x.task.points) c.loop-a.a (omega (arith, c.loop-a-test.true, c.len-a-end.ensures))
    c.loop-a.invariant.puts c.in_err-put_pairs_with.ensures.puts)

pub loop-a-preserved : goal.loop-a-preserved
loop-a-preserved g c =
    let x = c.args.admitted.now in
    record {
      puts = groups_more (λ a. map (pair_line x.task x.times a) (points_of x.task)) (length x.task.points) c.loop-a.a (omega (arith, c.loop-a-test.true, c.len-a-end.ensures))
          c.loop-a.invariant.puts c.in_ok-put_pairs_with.ensures.puts;
      room = c.put_pairs_with.ensures.room ∙ c.loop-a.invariant.room;
    }

pub returns-clause-puts : goal.returns-clause-puts
unfolding all_pair_lines
returns-clause-puts g c =
    let x = c.args.admitted.now in
    groups_whole (λ a. map (pair_line x.task x.times a) (points_of x.task)) (length x.task.points) c.loop-a.a
    (omega (arith, c.loop-a-test.false, c.loop-a.auto.a-end, c.len-a-end.ensures)) c.loop-a.invariant.puts
