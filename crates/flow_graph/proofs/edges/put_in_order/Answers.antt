use Rattle.std.proofs.lemmas.List.Filters.{dedup_is}
use Rattle.flow_graph.proofs.EdgeOrder.{in_edge_order}
use Rattle.flow_graph.proofs.edges.put_in_order.Goals as goal

pub returns : goal.returns
returns c = record { ok = in_edge_order _ _ _ c.in_ok-sort.ensures.permutation c.in_ok-sort.ensures.sorted (dedup_is _ _ _ c.dedup.ensures.filtered) }
