use Rattle.std.proofs.Common.{refl}
use Rattle.flow_graph.proofs.Extra.{blocks_added_to}
use Rattle.flow_graph.proofs.view.Graph.graph_blocks.Goals as goal

pub returns-clause-ok : goal.returns-clause-ok
returns-clause-ok c = blocks_added_to _ _ _ _ _ _ c.self.view_is refl refl refl refl refl c.deref-2.ensures.value c.deref.ensures.value c.in_ok-self-inside.ensures
