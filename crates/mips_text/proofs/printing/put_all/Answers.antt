use Rattle.mips_text.proofs.Rooms.{joined_short, put_more}
use Rattle.mips_text.proofs.printing.put_all.Goals as goal

pub loop-piece-init : goal.loop-piece-init
loop-piece-init c = joined_short c.args.text.now c.len-len.ensures

pub loop-piece-preserved : goal.loop-piece-preserved
loop-piece-preserved c = put_more c.args.text.now c.loop-piece.text c.put.new.text c.args.pieces.now c.loop-piece.piece-index _ c.loop-piece-test.true c.loop-piece.invariant c.put.ensures
