use Rattle.std.proofs.Common.{refl, sym, ◌∙◌}
use Rattle.loop_regions.specs.Regions.{is_aside}
use Rattle.loop_regions.proofs.Firsts.{first_edge, none_more, there}
use Rattle.loop_regions.proofs.crossing.first_edge_aside.Goals as goal

pub returns-then-enters_aside : goal.returns-then-enters_aside
returns-then-enters_aside c = (
  (_, there c.args.edges.now c.loop-e.e-index _ c.loop-e-test.true, sym c.enters_aside.ensures ∙ c.if-enters_aside.true, refl, refl),
  first_edge c.args.edges.now c.args.r.now c.loop-e.e-index _ c.loop-e-test.true c.requires c.loop-e.invariant,
)

pub loop-e-preserved : goal.loop-e-preserved
loop-e-preserved c = none_more (is_aside c.args.r.now) c.args.edges.now c.loop-e.e-index _ c.loop-e-test.true c.loop-e.invariant (sym c.enters_aside.ensures ∙ c.if-enters_aside.false)
