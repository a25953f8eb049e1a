use Rattle.std.proofs.lemmas.Result.{on_ok_weaker}
use Rattle.flow_graph.proofs.Points.{pointed_of}
use Rattle.flow_graph.proofs.returns.push_points.Goals as goal

pub returns-in-Some : goal.returns-in-Some
returns-in-Some c =
    on_ok_weaker c.push_point.result
    (λ more. pointed_of c.args.places.now c.args.functions.now c.args.returns.now c.args.place c.in-Some.function c.index-exits.result.now c.args.edges.now.items c.push_point.new.edges.items c.requires.within c.index-exits.ensures c.in-Some.is more)
    c.push_point.ensures
