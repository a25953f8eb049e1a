use Rattle.std.proofs.Common.{◌≡◌, ◌++◌, ◌+◌, ◌*◌, length, take}
use Rattle.std.specs.List.{flat_map}
use Rattle.log_text.specs.Lines.{byte_text}
use Rattle.log_text.proofs.write.add_digits.Given as goal

abbrev pub invariant-loop-byte : goal.invariant-loop-byte
invariant-loop-byte l = record {
  line : l.room.line ≡ l.initial.room.line ++ flat_map byte_text (take l.byte-index l.bytes);
  len : length l.room.line ≡ length l.initial.room.line + 2 * l.byte-index;
  room : l.room.room ≡ l.initial.room.room;
}
