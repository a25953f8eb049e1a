use Rattle.flow_graph.specs.Calls.{IsLevel}
use Rattle.flow_graph.proofs.calls.is_deep.Given as goal

abbrev pub invariant-loop-level : goal.invariant-loop-level
invariant-loop-level l = IsLevel l.net l.entry l.level l.stamps.items l.starts.items
