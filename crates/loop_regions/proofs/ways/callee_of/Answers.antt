use Rattle.std.proofs.Common.{refl, inr}
use Rattle.flow_graph.specs.Edges.{edge_of}
use Rattle.flow_graph.specs.declared.parts.EdgeKind.TheVariants.{Call}
use Rattle.loop_regions.proofs.ways.callee_of.Goals as goal

pub number_of-requires-clause-among : goal.number_of-requires-clause-among
number_of-requires-clause-among c = (c.requires.joined (edge_of c.args.e.from c.in-Some.f Call) c.in-Some.ensures (inr refl)).enters
