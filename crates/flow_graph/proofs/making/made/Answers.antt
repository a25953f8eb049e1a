use Rattle.flow_graph.proofs.Entries.{beside_of}
use Rattle.flow_graph.proofs.making.made.Goals as goal

pub from-requires-in-Some-clause-net : goal.from-requires-in-Some-clause-net
from-requires-in-Some-clause-net c = beside_of c.args.code.now _ c.in_ok-places.ensures
