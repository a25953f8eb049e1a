use Rattle.std.proofs.Common.{◌≡◌, subst, sym, arith}
use Rattle.flow_graph.specs.declared.parts.Edge.{Edge}
use Rattle.flow_graph.specs.declared.parts.EdgeKind.TheVariants.{Next}
use Rattle.bound_checker.specs.Room.{Adds}
use Rattle.bound_checker.specs.Search.{AreFromRising}
use Rattle.bound_checker.proofs.Searching.{LeadsFrom, all_edges, edge_at, edge_between, edge_listed, edge_order, firsts_of, from_rise, more_edges}
use Rattle.bound_checker.proofs.search.pass_on.Goals as goal

no_edge : Edge
no_edge = record { from = 0; to = 0; kind = Next }

pub first_edge-i-requires : goal.first_edge-i-requires
first_edge-i-requires c = subst AreFromRising (sym c.edges-edges.ensures) (from_rise c.args.code.now c.args.g.now c.requires.graph)

pub first_edge-i-end-requires : goal.first_edge-i-end-requires
first_edge-i-end-requires c = subst AreFromRising (sym c.edges-edges.ensures) (from_rise c.args.code.now c.args.g.now c.requires.graph)

pub pass_edge-requires-clause-from : goal.pass_edge-requires-clause-from
pass_edge-requires-clause-from c =
    edge_between c.args.g.now c.args.k c.from-a.result c.loop-i.i c.first_edge-i.result c.first_edge-i-end.result c.edges-edges.result.now c.unit_at.result _ c.requires.within c.unit_at.ensures c.from-a.ensures c.first_edge-i.ensures c.first_edge-i-end.ensures c.loop-i.auto.i c.loop-i-test.true

pub pass_edge-requires-clause-edge : goal.pass_edge-requires-clause-edge
pass_edge-requires-clause-edge c = edge_listed c.args.g.now c.loop-i.i c.first_edge-i-end.result _ c.edges-edges.result.now _ c.edges-edges.ensures c.first_edge-i-end.ensures c.loop-i-test.true

pub loop-i-preserved : goal.loop-i-preserved
loop-i-preserved c = record {
  room_is = c.pass_edge.ensures.room;
  adds = λ d. more_edges c.args.code.now c.args.g.now c.args.scope d _ c.first_edge-i.result c.loop-i.i _ _ _ c.loop-i.auto.i (edge_at c.args.g.now c.loop-i.i c.first_edge-i-end.result _ c.edges-edges.result.now _ d c.edges-edges.ensures c.first_edge-i-end.ensures c.loop-i-test.true) (c.loop-i.invariant.adds d) c.pass_edge.ensures.adds;
}

pub returns-clause-adds : goal.returns-clause-adds
returns-clause-adds c =
    let order = edge_order c.edges-edges.result.now c.from-a.result c.first_edge-i.result c.first_edge-i-end.result c.first_edge-i.ensures c.first_edge-i-end.ensures in
    let end : c.loop-i.i ≡ c.first_edge-i-end.result = omega (arith, c.loop-i.auto.i-end order, c.loop-i-test.false) in
    let firsts = firsts_of c.args.g.now c.args.k c.from-a.result c.first_edge-i.result c.first_edge-i-end.result c.edges-edges.result.now c.unit_at.result c.edges-edges.ensures c.requires.within c.unit_at.ensures c.from-a.ensures c.first_edge-i.ensures c.first_edge-i-end.ensures in
    all_edges c.args.code.now c.args.g.now c.args.scope no_edge c.args.k c.first_edge-i.result c.first_edge-i-end.result _ _ firsts.0 firsts.1
    (subst (λ i. Adds (LeadsFrom c.args.code.now c.args.g.now c.args.scope no_edge c.first_edge-i.result i) c.args.room.now c.loop-i.room) end (c.loop-i.invariant.adds no_edge))
