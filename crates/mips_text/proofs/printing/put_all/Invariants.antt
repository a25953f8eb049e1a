use Rattle.std.proofs.Common.{◌≡◌, take}
use Rattle.mips_text.specs.Room.{joined}
use Rattle.mips_text.specs.Operands.{pieces_text}
use Rattle.mips_text.proofs.printing.put_all.Given as goal

abbrev pub invariant-loop-piece : goal.invariant-loop-piece
invariant-loop-piece l = l.text ≡ joined l.initial.text (pieces_text (take l.piece-index l.pieces))
