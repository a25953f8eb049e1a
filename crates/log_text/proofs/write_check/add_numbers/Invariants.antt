use Rattle.std.proofs.Common.{◌≡◌, ◌++◌, ◌+◌, ◌*◌, ◌≤◌, length, take}
use Rattle.log_text.specs.Check.{numbers_behind}
use Rattle.log_text.proofs.write_check.add_numbers.Given as goal

abbrev pub invariant-loop-number : goal.invariant-loop-number
invariant-loop-number l = record {
  line : l.room.line ≡ l.initial.room.line ++ numbers_behind (take l.number-index l.numbers);
  len : length l.room.line ≤ length l.initial.room.line + 21 * l.number-index;
  room : l.room.room ≡ l.initial.room.room;
}
