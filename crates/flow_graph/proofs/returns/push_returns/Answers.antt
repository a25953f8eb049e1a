use Rattle.flow_graph.proofs.Points.{all_points, more_points}
use Rattle.flow_graph.proofs.returns.push_returns.Goals as goal

pub loop-place-preserved : goal.loop-place-preserved
loop-place-preserved c = more_points c.args.places.now c.args.functions.now c.args.returns.now c.args.reached.now c.loop-place.place-index 0 c.args.edges.now.items c.loop-place.edges.items _ c.loop-place-test.true c.in_ok-push_points.ensures c.loop-place.invariant

pub returns : goal.returns
returns c = all_points c.args.places.now c.args.functions.now c.args.returns.now c.args.reached.now c.loop-place.place-index c.args.edges.now.items c.loop-place.edges.items c.loop-place-test.false c.loop-place.auto.place-index-end c.loop-place.invariant
