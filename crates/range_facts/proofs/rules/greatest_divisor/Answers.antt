use Rattle.range_facts.proofs.Divisors.{divisor_is}
use Rattle.range_facts.proofs.rules.greatest_divisor.Goals as goal

pub returns : goal.returns
returns c = divisor_is c.args.a c.args.b c.euclid.result c.requires c.euclid.ensures
