use Rattle.std.proofs.Common.{◌≡◌, map, take}
use Rattle.flow_graph.specs.declared.site.Site.{Site}
use Rattle.flow_graph.proofs.places.exits_of.Given as goal

abbrev pub invariant-loop-site : goal.invariant-loop-site
invariant-loop-site l = l.net.items ≡ map (λ (site : Site). site.exits) (take l.site-index l.sites)
