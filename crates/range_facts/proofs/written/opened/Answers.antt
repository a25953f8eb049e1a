use Rattle.range_facts.proofs.Opening.{opened_is}
use Rattle.range_facts.proofs.written.opened.Goals as goal

pub returns : goal.returns
returns c =
    opened_is c.args.input_at c.args.input_len c.args.stack c.constant-ranges.result c.word_fact.result c.up_to.result c.word_fact-2.result c.word_fact-3.result c.constant-ranges.ensures
    c.word_fact.ensures c.up_to.ensures c.word_fact-2.ensures c.word_fact-3.ensures
