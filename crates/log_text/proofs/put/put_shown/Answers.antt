use Rattle.std.proofs.Common.{◌∙◌}
use Rattle.visa_io.proofs.PutLaws.{each_more, each_stops, puts_failed}
use Rattle.log_text.specs.Lines.{shown_line}
use Rattle.log_text.proofs.put.put_shown.Goals as goal

pub returns-in_err-put_range-clause-puts : goal.returns-in_err-put_range-clause-puts
returns-in_err-put_range-clause-puts g c =
    puts_failed _ _ _ c.from_residual.result c.from_residual.ensures.0
    (each_stops (shown_line c.args.state.now.mips.memory) c.args.show.now c.loop-span.span-index _ c.loop-span-test.true c.loop-span.invariant.puts
    c.in_err-put_range.ensures.puts)

pub loop-span-preserved : goal.loop-span-preserved
loop-span-preserved g c = record {
  puts = each_more (shown_line c.args.state.now.mips.memory) c.args.show.now c.loop-span.span-index _ c.loop-span-test.true c.loop-span.invariant.puts
      c.in_ok-put_range.ensures.puts;
  room = c.put_range.ensures.room ∙ c.loop-span.invariant.room;
}
