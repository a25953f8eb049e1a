use Rattle.core_window.proofs.Overlaid.{one_more}
use Rattle.core_window.proofs.overlay.overlaid_lanes.Goals as goal

pub loop-j-preserved : goal.loop-j-preserved
loop-j-preserved c =
    one_more c.args.memory.now c.args.entries.now.items c.args.k c.loop-j.j c.index.result.now c.args.at c.loop-j.lanes c.past-lanes.result
    c.loop-j-test.true c.requires.within c.index.ensures c.requires.aligned c.requires.memory c.requires.fit c.loop-j.invariant c.past-lanes.ensures
