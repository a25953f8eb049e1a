use Rattle.visa_io.proofs.PutLaws.{puts_after}
use Rattle.list_text.specs.Tables.{lines_at}
use Rattle.list_text.proofs.put.put_lines.Goals as goal

pub returns-clause-puts : goal.returns-clause-puts
returns-clause-puts g c = puts_after _ _ _ (lines_at c.args.table.now c.args.at) _ c.put_word.result c.in_ok-put_symbols.ensures c.put_word.ensures.puts
