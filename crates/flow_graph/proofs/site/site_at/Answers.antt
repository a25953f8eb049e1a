use Rattle.flow_graph.proofs.Exits.{reserved_site_at}
use Rattle.flow_graph.proofs.site.site_at.Goals as goal

pub returns-in-None : goal.returns-in-None
returns-in-None c = reserved_site_at c.args.table.now c.args.place _ _ c.requires.within c.index-at.ensures c.index.ensures c.in-None.is
