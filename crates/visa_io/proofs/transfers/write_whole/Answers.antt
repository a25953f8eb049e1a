use Rattle.std.proofs.Common.{arith}
use Rattle.visa_io.proofs.WholeWrites.{one_more}
use Rattle.visa_io.proofs.transfers.write_whole.Goals as goal

pub loop-done-preserved : goal.loop-done-preserved
loop-done-preserved g c =
    (omega (arith, c.in_ok-done.ensures.bounds), one_more _ _ _ c.args.piece.now c.loop-done.done c.in_ok-done.field-0 c.loop-done.invariant.1 c.in_ok-done.ensures.bytes)
