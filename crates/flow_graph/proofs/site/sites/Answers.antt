use Rattle.flow_graph.proofs.Exits.{one_more_site}
use Rattle.flow_graph.proofs.site.sites.Goals as goal

pub loop-place-preserved : goal.loop-place-preserved
loop-place-preserved c = one_more_site _ _ _ _ _ c.site_at.ensures c.in_ok-push.ensures.items c.loop-place.invariant
