use Rattle.std.specs.Prelude.{length}
use Rattle.admission.specs.Bounding.{AreCosts, AreRows}
use Rattle.admission.specs.Rows.{rows_of}
use Rattle.admission.proofs.bounds.bounds_of.Given as goal

abbrev pub invariant-loop-p : goal.invariant-loop-p
invariant-loop-p l =
    AreRows l.task l.g l.n l.cuts l.p (rows_of l.rows.items) × AreCosts l.task l.g l.cuts l.pen (length l.cuts.firsts) l.costs.items
