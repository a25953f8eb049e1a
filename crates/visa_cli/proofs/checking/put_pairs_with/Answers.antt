use Rattle.std.proofs.Common.{◌∙◌, length, arith}
use Rattle.visa_io.proofs.PutLaws.{puts_failed}
use Rattle.log_text.proofs.Counting.{counted_more, counted_stops, counted_whole}
use Rattle.visa_cli.specs.Check.{pair_line}
use Rattle.visa_cli.proofs.checking.put_pairs_with.Goals as goal

pub returns-in_err-put_pair-clause-puts : goal.returns-in_err-put_pair-clause-puts
returns-in_err-put_pair-clause-puts g c =
    let a = c.args.admitted.now in
    puts_failed _ _ _ c.from_residual.result c.from_residual.ensures.0
    (counted_stops (pair_line a.task a.times c.args.a) (length a.task.points) c.loop-b.b (omega (arith, c.loop-b-test.true, c.len-b-end.ensures))
    c.loop-b.invariant.puts c.in_err-put_pair.ensures.puts)

pub loop-b-preserved : goal.loop-b-preserved
loop-b-preserved g c =
    let a = c.args.admitted.now in
    record {
      puts = counted_more (pair_line a.task a.times c.args.a) (length a.task.points) c.loop-b.b (omega (arith, c.loop-b-test.true, c.len-b-end.ensures))
          c.loop-b.invariant.puts c.in_ok-put_pair.ensures.puts;
      room = c.put_pair.ensures.room ∙ c.loop-b.invariant.room;
    }

pub returns-clause-puts : goal.returns-clause-puts
returns-clause-puts g c =
    let a = c.args.admitted.now in
    counted_whole (pair_line a.task a.times c.args.a) (length a.task.points) c.loop-b.b (omega (arith, c.loop-b-test.false, c.loop-b.auto.b-end, c.len-b-end.ensures)) c.loop-b.invariant.puts
