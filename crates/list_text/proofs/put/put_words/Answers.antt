use Rattle.std.proofs.Common.{◌∙◌}
use Rattle.visa_io.proofs.PutLaws.{puts_failed}
use Rattle.list_text.specs.Tables.{lines_at}
use Rattle.list_text.proofs.Runs.{words_more, words_stop}
use Rattle.list_text.proofs.put.put_words.Goals as goal

pub returns-in_err-put_lines-clause-puts : goal.returns-in_err-put_lines-clause-puts
returns-in_err-put_lines-clause-puts g c =
    puts_failed _ _ _ c.from_residual.result c.from_residual.ensures.0 (words_stop (lines_at c.args.table.now) c.args.at c.args.words.now c.loop-i.i 0 c.loop-i-test.true c.loop-i.invariant.puts c.in_err-put_lines.ensures.puts)

pub loop-i-preserved : goal.loop-i-preserved
loop-i-preserved g c = record {
  puts = words_more (lines_at c.args.table.now) c.args.at c.args.words.now c.loop-i.i 0 c.loop-i-test.true c.loop-i.invariant.puts c.in_ok-put_lines.ensures.puts;
  room = c.put_lines.ensures.room ∙ c.loop-i.invariant.room;
}
