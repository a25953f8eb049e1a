use Rattle.flow_graph.specs.Calls.{IsLeast}
use Rattle.bound_checker.proofs.Entering.{WritesUpto}
use Rattle.bound_checker.proofs.callees.least_write.Given as goal

abbrev pub invariant-loop-i : goal.invariant-loop-i
invariant-loop-i l = IsLeast (WritesUpto l.code l.g l.room l.c l.i) l.best
