use Rattle.std.specs.Prelude.{length}
use Rattle.admission.specs.Bounding.{AreChanging}
use Rattle.admission.proofs.bounds.set_pens.Given as goal

abbrev pub invariant-loop-k : goal.invariant-loop-k
invariant-loop-k l = AreChanging l.task l.g l.cuts l.fn.old l.pen (length l.cuts.firsts) l.k l.costs.items
