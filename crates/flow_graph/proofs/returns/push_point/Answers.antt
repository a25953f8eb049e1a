use Rattle.std.proofs.lemmas.Result.{on_ok_weaker}
use Rattle.flow_graph.proofs.Points.{pointed_at}
use Rattle.flow_graph.proofs.returns.push_point.Goals as goal

pub returns-in-Some : goal.returns-in-Some
returns-in-Some c =
    on_ok_weaker c.push_edges.result
    (λ is. pointed_at c.args.places.now c.args.functions.now c.args.returns.now c.args.function c.in-Some.point c.index.result.now c.args.point c.returns_of-own.result.now c.args.edges.now.items c.push_edges.new.edges.items c.in-Some.is c.requires.inside c.index.ensures c.returns_of-own.ensures is)
    c.push_edges.ensures
