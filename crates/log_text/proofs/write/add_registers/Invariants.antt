use Rattle.std.proofs.Common.{◌≡◌, ◌++◌, ◌+◌, ◌*◌, ◌-◌, ◌≤◌, length}
use Rattle.log_text.specs.Lines.{registers_text}
use Rattle.log_text.proofs.write.add_registers.Given as goal

abbrev pub invariant-loop-r : goal.invariant-loop-r
invariant-loop-r l = record {
  line : l.room.line ≡ l.initial.room.line ++ registers_text l.state.mips (l.r - 1);
  len : length l.room.line ≤ length l.initial.room.line + 12 * (l.r - 1);
  room : l.room.room ≡ l.initial.room.room;
}
