use Rattle.flow_graph.proofs.Gathered.{IsGathered}
use Rattle.flow_graph.proofs.table.lines.Given as goal

abbrev pub invariant-loop-span : goal.invariant-loop-span
invariant-loop-span l = IsGathered l.spans l.words l.span-index l.lines.items l.rest
