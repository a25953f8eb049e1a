use Rattle.std.proofs.Common.{rules, ◌+◌, ◌≡◌, sym, subst, ◌∙◌, map, take, List, [], ◌∷◌, ◌++◌}
use Rattle.std.specs.List.{All}
use Rattle.std.proofs.lemmas.List.Elements.{All-push}
use Rattle.loop_regions.specs.Ways.{IsWay, inner_edges}
use Rattle.loop_regions.specs.declared.ways.Way.{Way}
use Rattle.loop_regions.proofs.Numbers.{ways_pass, ways_push}
use Rattle.loop_regions.proofs.ways.all_ways.Goals as goal
use Rattle.loop_regions.proofs.ways.all_ways.Goals.{then-is_inside+in_ok-push, else-is_inside}

pub loop-i-preserved : goal.loop-i-preserved
loop-i-preserved c = elim c.if-is_inside.branch [
  | then-is_inside+in_ok-push w ↦
      let items : c.if-is_inside.ways.items ≡ c.loop-i.ways.items ++ (w.way_of.result ∷ []) = search rules in (
        subst (λ (l : List Way). map (λ v. v.edge) l ≡ inner_edges (take (c.loop-i.i + 1) c.args.edges.now)) (sym items)
            (ways_push c.args.edges.now c.loop-i.ways.items w.way_of.result c.loop-i.i _ c.loop-i-test.true (sym c.is_inside.ensures ∙ w.if-is_inside.true) w.way_of.ensures.edge_is c.loop-i.invariant.0),
        subst (λ (l : List Way). All (IsWay c.args.addresses.now c.args.edges.now c.args.regions.now) l) (sym items)
            (All-push (IsWay c.args.addresses.now c.args.edges.now c.args.regions.now) c.loop-i.ways.items w.way_of.result c.loop-i.invariant.1 w.way_of.ensures.is),
      )
  | else-is_inside w ↦ (
    rw w.ways-is (ways_pass c.args.edges.now c.loop-i.ways.items c.loop-i.i _ c.loop-i-test.true (sym c.is_inside.ensures ∙ w.if-is_inside.false) c.loop-i.invariant.0),
    rw w.ways-is c.loop-i.invariant.1,
  )
]
