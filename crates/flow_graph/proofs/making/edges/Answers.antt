use Rattle.flow_graph.proofs.Built.{edges_made}
use Rattle.flow_graph.proofs.making.edges.Goals as goal

pub returns : goal.returns
returns c =
    edges_made c.args.places.now c.args.reached.now c.args.functions.now c.args.parts.now.returns c.new-edges.result.items c.push_own.new.edges.items c.push_returns.new.edges.items c.put_in_order.new.edges.items c.deref.result.now c.deref-2.result.now
    c.new-edges.ensures.items c.deref.ensures.value c.deref-2.ensures.value c.in_ok-push_own.ensures c.in_ok-push_returns.ensures c.in_ok-put_in_order.ensures.ok
