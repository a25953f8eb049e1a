use Rattle.std.proofs.Common.{◌≡◌, sym, subst, arith, rules}
use Rattle.std.specs.Vec.{with_items}
use Rattle.std.proofs.lemmas.List.{with_items_is}
use Rattle.bound_checker.specs.Marks.{AreDue, AreRowsClosed}
use Rattle.bound_checker.proofs.Masking.{are_masks}
use Rattle.bound_checker.proofs.passing.masks_of.Goals as goal

pub returns-clause-masks : goal.returns-clause-masks
returns-clause-masks c =
    let same : (with_items c.in_ok-marks.marks c.mark_until.new.marks).items ≡ c.mark_until.new.marks = with_items_is c.in_ok-marks.marks c.mark_until.new.marks (first_of (search rules, omega arith)) in
    are_masks c.args.code.now c.args.g.now (record { functions = c.in_ok-functions.functions; marks = with_items c.in_ok-marks.marks c.mark_until.new.marks }) c.requires.graph (search rules)
    (subst (λ l. AreDue c.args.code.now c.args.g.now l) (sym same) c.mark_until.ensures.due) (subst (λ l. AreRowsClosed c.args.code.now c.args.g.now l) (sym same) c.mark_until.ensures.closed)
