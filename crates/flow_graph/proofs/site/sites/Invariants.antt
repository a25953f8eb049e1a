use Rattle.flow_graph.specs.Sites.{AreSitesOf}
use Rattle.flow_graph.proofs.site.sites.Given as goal

abbrev pub invariant-loop-place : goal.invariant-loop-place
invariant-loop-place l = AreSitesOf l.table l.place l.sites.items
