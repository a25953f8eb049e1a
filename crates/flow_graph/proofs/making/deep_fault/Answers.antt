use Rattle.flow_graph.proofs.Built.{deep_none}
use Rattle.flow_graph.proofs.making.deep_fault.Goals as goal

pub returns-in-None : goal.returns-in-None
returns-in-None c = deep_none c.args.places.now c.args.functions.now c.deref.result.now c.in_ok-recursive_call.field-0 c.deref.ensures.value c.in-None.is c.in_ok-recursive_call.ensures
