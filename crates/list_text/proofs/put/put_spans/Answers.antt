use Rattle.std.proofs.Common.{◌∙◌}
use Rattle.visa_io.proofs.PutLaws.{puts_failed}
use Rattle.list_text.specs.Tables.{lines_at}
use Rattle.list_text.proofs.Runs.{behind_next, behind_stops}
use Rattle.list_text.proofs.put.put_spans.Goals as goal

pub returns-in_err-put_words-clause-puts : goal.returns-in_err-put_words-clause-puts
returns-in_err-put_words-clause-puts g c =
    puts_failed _ _ _ c.from_residual.result c.from_residual.ensures.0
    (behind_stops (lines_at c.args.table.now) c.args.spans.now c.args.words.now c.loop-span.span-index _ c.loop-span.rest.now c.split_at.result.0.now c.loop-span-test.true c.loop-span.invariant.behind c.split_at.ensures.front c.in_err-put_words.ensures.puts)

pub loop-span-preserved : goal.loop-span-preserved
loop-span-preserved g c = record {
  behind = behind_next (lines_at c.args.table.now) c.args.spans.now c.args.words.now c.loop-span.span-index _ c.loop-span.rest.now c.split_at.result.0.now c.split_at.result.1.now c.loop-span-test.true c.loop-span.invariant.behind
      (c.requires.aligned c.loop-span.span-index _ c.loop-span-test.true) c.split_at.ensures.front c.split_at.ensures.back c.in_ok-put_words.ensures.puts;
  room = c.put_words.ensures.room ∙ c.loop-span.invariant.room;
}
