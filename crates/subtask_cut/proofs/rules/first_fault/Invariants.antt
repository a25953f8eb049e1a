use Rattle.std.proofs.Common.{◌+◌, ◌≤◌}
use Rattle.subtask_cut.specs.Cuts.{Has, number_of}
use Rattle.subtask_cut.specs.declared.fault.CutFault.{CutFault}
use Rattle.subtask_cut.proofs.rules.first_fault.Given as goal

abbrev pub invariant-loop-k : goal.invariant-loop-k
invariant-loop-k l = (fault : CutFault) → Has l.g l.n.regions l.cuts fault → l.k + 2 ≤ number_of fault
