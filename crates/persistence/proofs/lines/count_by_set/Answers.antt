use Rattle.std.proofs.Common.{◌%◌, get_or, arith}
use Rattle.persistence.proofs.Counting.{count_small}
use Rattle.persistence.proofs.lines.count_by_set.Goals as goal

pub raise-requires-clause-room : goal.raise-requires-clause-room
raise-requires-clause-room c =
    omega (arith, count_small c.args.shape c.args.lines.now c.loop-line.counts.items c.loop-line.line-index (get_or c.args.lines.now c.loop-line.line-index 0 % c.from.result) c.loop-line.invariant (omega (arith, c.from.ensures, c.requires)))
