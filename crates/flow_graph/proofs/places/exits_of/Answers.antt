use Rattle.std.proofs.Common.{refl}
use Rattle.flow_graph.specs.declared.site.Site.{Site}
use Rattle.flow_graph.proofs.Members.{mapped_all, mapped_more}
use Rattle.flow_graph.proofs.places.exits_of.Goals as goal

pub loop-site-preserved : goal.loop-site-preserved
loop-site-preserved c = mapped_more (λ (site : Site). site.exits) _ _ _ _ _ _ c.loop-site-test.true c.loop-site.invariant c.in_ok-push.ensures.items refl

pub returns : goal.returns
returns c = mapped_all (λ (site : Site). site.exits) _ _ _ c.loop-site-test.false c.loop-site.invariant
