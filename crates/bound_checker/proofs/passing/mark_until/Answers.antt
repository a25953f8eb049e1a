use Rattle.std.proofs.Common.{arith}
use Rattle.bound_checker.proofs.Masking.{closed_by}
use Rattle.bound_checker.proofs.passing.mark_until.Goals as goal

pub returns-then-before-unmarked-clause-closed : goal.returns-then-before-unmarked-clause-closed
returns-then-before-unmarked-clause-closed c = closed_by c.args.code.now c.args.g.now c.loop-before.marks c.mark_all.new.marks c.mark_all.ensures (omega arith)
