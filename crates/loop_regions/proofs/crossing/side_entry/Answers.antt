use Rattle.std.proofs.Common.{sym, subst, ℕ, List}
use Rattle.std.specs.List.{AllPairs}
use Rattle.loop_regions.specs.Nested.{NotBack}
use Rattle.flow_graph.specs.declared.parts.Edge.{Edge}
use Rattle.loop_regions.specs.Sides.{IsFirstEdge, IsFirstFunction, IsFirstSide}
use Rattle.loop_regions.proofs.Firsts.{first_side}
use Rattle.loop_regions.proofs.crossing.side_entry.Goals as goal

pub first_edge_aside-requires : goal.first_edge_aside-requires
first_edge_aside-requires c = subst (AllPairs NotBack) (sym c.edges.ensures) c.requires.edges

pub returns : goal.returns
returns c = subst (IsFirstSide c.args.g.now c.args.r.now) (sym c.earlier.ensures)
    (first_side c.args.g.now c.args.r.now c.first_edge_aside.result c.first_function_aside.result
    (subst (λ (es : List Edge). IsFirstEdge es c.args.r.now c.first_edge_aside.result) c.edges.ensures c.first_edge_aside.ensures)
    (subst (λ (fs : List ℕ). IsFirstFunction fs c.args.r.now c.first_function_aside.result) c.functions.ensures c.first_function_aside.ensures))
