use Rattle.bound_checker.proofs.Calls.{closed_unit}
use Rattle.bound_checker.proofs.passing.mark_unit.Goals as goal

pub returns-clause-closed : goal.returns-clause-closed
returns-clause-closed c =
    closed_unit c.args.code.now c.args.g.now c.args.row c.args.unit.at c.args.marks.now c.mark_own.new.marks c.mark_called.new.marks c.mark_own.ensures.below c.mark_called.ensures.below c.mark_own.ensures.own
    c.mark_called.ensures.called
