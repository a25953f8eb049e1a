use Rattle.std.proofs.Common.{◌∙◌, ◌+◌, length, arith}
use Rattle.std.specs.Prelude.{slice_index}
use Rattle.visa_io.proofs.PutLaws.{puts_failed}
use Rattle.log_text.specs.Check.{bound_line, bound_lines}
use Rattle.log_text.proofs.Counting.{counted_more, counted_stops, counted_whole}
use Rattle.log_text.proofs.put_check.put_bounds.Goals as goal

pub returns-in_err-put_bound-clause-puts : goal.returns-in_err-put_bound-clause-puts
unfolding bound_lines
returns-in_err-put_bound-clause-puts g c =
    puts_failed _ _ _ c.from_residual.result c.from_residual.ensures.0
    (counted_stops (λ k. bound_line c.args.point (k + 1) (slice_index c.args.bounds.now k)) (length c.args.bounds.now) c.loop-k.k
    (omega (arith, c.loop-k-test.true, c.loop-k.auto.k-end)) c.loop-k.invariant.puts c.in_err-put_bound.ensures.puts)

pub loop-k-preserved : goal.loop-k-preserved
loop-k-preserved g c = record {
  puts = counted_more (λ k. bound_line c.args.point (k + 1) (slice_index c.args.bounds.now k)) (length c.args.bounds.now) c.loop-k.k
      (omega (arith, c.loop-k-test.true, c.loop-k.auto.k-end)) c.loop-k.invariant.puts c.in_ok-put_bound.ensures.puts;
  room = c.put_bound.ensures.room ∙ c.loop-k.invariant.room;
}

pub returns-clause-puts : goal.returns-clause-puts
unfolding bound_lines
returns-clause-puts g c =
    counted_whole (λ k. bound_line c.args.point (k + 1) (slice_index c.args.bounds.now k)) (length c.args.bounds.now) c.loop-k.k
    (omega (arith, c.loop-k-test.false, c.loop-k.auto.k-end)) c.loop-k.invariant.puts
