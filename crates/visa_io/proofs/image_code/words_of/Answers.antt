use Rattle.std.proofs.Common.{sym, false}
use Rattle.visa_io.proofs.ImageLaws.{words_more}
use Rattle.visa_io.proofs.image_code.words_of.Goals as goal

pub loop-piece-preserved : goal.loop-piece-preserved
loop-piece-preserved c = rw (c.in_ok-push_words.ensures, c.loop-piece.invariant)
    (sym (words_more c.args.big c.args.bytes.now c.args.pieces.now c.loop-piece.piece-index
    (record { span = record { start = 0; len = 0; r = false; w = false; x = false }; at = 0 }) c.loop-piece-test.true))
