use Rattle.std.proofs.Common.{◌≡◌, map, take}
use Rattle.visa_io.specs.ImageCode.{cut}
use Rattle.visa_io.proofs.image_code.spans_of.Given as goal

abbrev pub invariant-loop-piece : goal.invariant-loop-piece
invariant-loop-piece l = l.spans ≡ map (λ piece. cut piece.span) (take l.piece-index l.pieces)
