use Rattle.flow_graph.proofs.Levels.{callers_all, one_more_caller}
use Rattle.flow_graph.proofs.calls.again.Goals as goal

pub loop-place-preserved : goal.loop-place-preserved
loop-place-preserved c = one_more_caller c.args.net.now c.args.function c.args.found.now c.loop-place.place-index _ c.loop-place.best c.lesser-best.result c.caller.result c.loop-place-test.true c.lesser-best.ensures c.caller.ensures c.loop-place.invariant

pub returns : goal.returns
returns c = callers_all c.args.net.now c.args.function c.args.found.now c.loop-place.place-index c.loop-place.best c.loop-place-test.false c.loop-place.auto.place-index-end c.loop-place.invariant
