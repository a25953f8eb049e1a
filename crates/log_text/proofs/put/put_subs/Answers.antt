use Rattle.std.proofs.Common.{◌∙◌, ◌+◌, length, arith}
use Rattle.std.specs.Prelude.{slice_index}
use Rattle.visa_io.proofs.PutLaws.{puts_failed}
use Rattle.log_text.specs.Lines.{sub_line, sub_lines}
use Rattle.log_text.proofs.Counting.{counted_more, counted_stops, counted_whole}
use Rattle.log_text.proofs.put.put_subs.Goals as goal

pub returns-in_err-put_sub-clause-puts : goal.returns-in_err-put_sub-clause-puts
unfolding sub_lines
returns-in_err-put_sub-clause-puts g c =
    puts_failed _ _ _ c.from_residual.result c.from_residual.ensures.0
    (counted_stops (λ k. sub_line (k + 1) (slice_index c.args.counts.now k)) (length c.args.counts.now) c.loop-k.k
    (omega (arith, c.loop-k-test.true, c.loop-k.auto.k-end)) c.loop-k.invariant.puts c.in_err-put_sub.ensures.puts)

pub loop-k-preserved : goal.loop-k-preserved
loop-k-preserved g c = record {
  puts = counted_more (λ k. sub_line (k + 1) (slice_index c.args.counts.now k)) (length c.args.counts.now) c.loop-k.k
      (omega (arith, c.loop-k-test.true, c.loop-k.auto.k-end)) c.loop-k.invariant.puts c.in_ok-put_sub.ensures.puts;
  room = c.put_sub.ensures.room ∙ c.loop-k.invariant.room;
}

pub returns-clause-puts : goal.returns-clause-puts
unfolding sub_lines
returns-clause-puts g c =
    counted_whole (λ k. sub_line (k + 1) (slice_index c.args.counts.now k)) (length c.args.counts.now) c.loop-k.k
    (omega (arith, c.loop-k-test.false, c.loop-k.auto.k-end)) c.loop-k.invariant.puts
