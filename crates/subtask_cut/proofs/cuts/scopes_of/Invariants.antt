use Rattle.std.proofs.Common.{map}
use Rattle.subtask_cut.proofs.Scopes.{AreSoFar}
use Rattle.subtask_cut.proofs.cuts.scopes_of.Given as goal

abbrev pub invariant-loop-k : goal.invariant-loop-k
invariant-loop-k l = AreSoFar l.g l.firsts l.k (map (λ us. us.items) l.scopes.items)
