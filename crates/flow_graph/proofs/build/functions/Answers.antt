use Rattle.std.proofs.lemmas.List.Filters.{dedup_is}
use Rattle.flow_graph.proofs.Orders.{functions_of}
use Rattle.flow_graph.proofs.build.functions.Goals as goal

pub returns : goal.returns
returns c = functions_of c.args.net.now c.args.entry c.args.reached.now c.in_ok-functions.functions.items _ _ _ c.in_ok-functions.ensures c.in_ok-push.ensures.items c.in_ok-sort.ensures.permutation c.in_ok-sort.ensures.sorted (dedup_is _ _ _ c.dedup.ensures.filtered)
