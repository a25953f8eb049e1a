use Rattle.std.proofs.lemmas.List.{get_or_default}
use Rattle.loop_regions.proofs.Entries.{none_entered, none_more_entered, this_entered}
use Rattle.loop_regions.proofs.nest.first_entry.Goals as goal

pub returns-in-Some : goal.returns-in-Some
returns-in-Some c = this_entered c.args.g.now c.args.regions.now c.loop-k.k _ c.in-Some.side c.loop-k-test.true (get_or_default c.args.regions.now c.loop-k.k _ _ c.loop-k-test.true) c.loop-k.invariant c.in-Some.ensures

pub loop-k-preserved : goal.loop-k-preserved
loop-k-preserved c = none_more_entered c.args.g.now c.args.regions.now c.loop-k.k _ c.loop-k-test.true (get_or_default c.args.regions.now c.loop-k.k _ _ c.loop-k-test.true) c.loop-k.invariant c.in-None.ensures

pub returns : goal.returns
returns c = none_entered c.args.g.now c.args.regions.now c.loop-k.k c.loop-k-test.false c.loop-k.invariant
