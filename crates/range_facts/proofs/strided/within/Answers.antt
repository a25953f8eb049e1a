use Rattle.range_facts.proofs.Sets.{tests_within}
use Rattle.range_facts.proofs.strided.within.Goals as goal

pub returns : goal.returns
returns c = tests_within c.args.a c.args.b c.requires.inner c.requires.outer c.ends_are_in.result c.ends_are_in.ensures
