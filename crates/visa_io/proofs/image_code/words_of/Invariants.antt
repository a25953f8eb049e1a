use Rattle.std.proofs.Common.{◌≡◌, take}
use Rattle.visa_io.specs.ImageCode.{words_of_all}
use Rattle.visa_io.proofs.image_code.words_of.Given as goal

abbrev pub invariant-loop-piece : goal.invariant-loop-piece
invariant-loop-piece l = l.words ≡ words_of_all l.big l.bytes (take l.piece-index l.pieces)
