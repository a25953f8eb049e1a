use Rattle.flow_graph.specs.FunctionParts.{IsPartsLoop}
use Rattle.flow_graph.proofs.function_parts.parts_of.Given as goal

abbrev pub invariant-loop-k : goal.invariant-loop-k
invariant-loop-k l = IsPartsLoop l.places l.functions l.k l.stamps.items l.units l.returns
