use Rattle.flow_graph.specs.Calls.{CallsAmong, IsLeast}
use Rattle.flow_graph.proofs.calls.again.Given as goal

abbrev pub invariant-loop-place : goal.invariant-loop-place
invariant-loop-place l = IsLeast (CallsAmong l.net l.function l.found l.place-index) l.best
