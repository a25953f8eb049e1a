use Rattle.std.proofs.Common.{arith}
use Rattle.bound_checker.proofs.Calls.{all_more}
use Rattle.bound_checker.proofs.Members.{all_rows, no_rows}
use Rattle.bound_checker.proofs.passing.mark_all.Goals as goal

pub loop-row-init : goal.loop-row-init
loop-row-init c = no_rows c.args.code.now c.args.g.now c.args.marks.now c.requires.due

pub loop-row-preserved : goal.loop-row-preserved
loop-row-preserved c = all_more c.args.code.now c.args.g.now c.loop-row.row c.args.marks.now c.loop-row.marks c.mark_function.new.marks c.loop-row.invariant c.mark_function.ensures

pub returns : goal.returns
returns c = all_rows c.args.code.now c.args.g.now c.loop-row.row c.args.marks.now c.loop-row.marks (omega arith) c.loop-row.invariant
