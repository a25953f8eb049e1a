use Rattle.range_facts.proofs.Refined.{replaced_keeps}
use Rattle.range_facts.proofs.along.Along.refined_at.Goals as goal

pub returns-in-Some-clause-facts : goal.returns-in-Some-clause-facts
returns-in-Some-clause-facts c =
    replaced_keeps c.args.self c.args.r c.in-Some.s c.fact.result c.args.c c.replaced.result c.requires c.fact.ensures c.in-Some.ensures.left c.replaced.ensures
