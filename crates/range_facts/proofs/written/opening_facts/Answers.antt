use Rattle.range_facts.proofs.Opening.{opening_are_at}
use Rattle.range_facts.proofs.written.opening_facts.Goals as goal

pub returns-clause-facts : goal.returns-clause-facts
returns-clause-facts c = opening_are_at c.args.input_at c.args.input_len c.args.stack c.opened.result c.requires c.opened.ensures
