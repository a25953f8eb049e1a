use Rattle.range_facts.proofs.Kept.{transfer_keeps_at}
use Rattle.range_facts.proofs.written.transfer.Goals as goal

pub returns-clause-facts : goal.returns-clause-facts
returns-clause-facts c = transfer_keeps_at c.args.i c.args.at c.args.facts.now c.pass.new.facts c.requires.fits c.requires.facts c.pass.ensures
