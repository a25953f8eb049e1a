use Rattle.std.proofs.lemmas.List.Filters.{dedup_is}
use Rattle.flow_graph.proofs.Orders.{in_order}
use Rattle.flow_graph.proofs.blocks.put_in_order.Goals as goal

pub returns : goal.returns
returns c = record { ok = in_order _ _ _ c.in_ok-sort.ensures.permutation c.in_ok-sort.ensures.sorted (dedup_is _ _ _ c.dedup.ensures.filtered) }
