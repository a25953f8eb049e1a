use Rattle.std.proofs.Common.{◌≡◌, filter, take}
use Rattle.visa_io.specs.ImageCode.{has_code, placed_from, total_len}
use Rattle.visa_io.proofs.image_code.place_all.Given as goal

abbrev pub invariant-loop-span : goal.invariant-loop-span
invariant-loop-span l =
    (l.pieces.items ≡ filter has_code (placed_from 0 (take l.span-index l.spans))) × (l.at ≡ total_len (take l.span-index l.spans))
