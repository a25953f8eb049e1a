use Rattle.flow_graph.proofs.Levels.{IsSearchedOf}
use Rattle.flow_graph.proofs.calls.recursive_call.Given as goal

abbrev pub invariant-loop-k : goal.invariant-loop-k
invariant-loop-k l = IsSearchedOf l.net l.functions l.k l.stamps.items l.best
