use Rattle.std.proofs.Common.{◌≡◌, ◌≤◌, ◌++◌, ◌+◌, ◌-◌, ◌*◌, length}
use Rattle.log_text.specs.Lines.{bytes_text}
use Rattle.log_text.proofs.write.add_bytes.Given as goal

abbrev pub invariant-loop-done : goal.invariant-loop-done
invariant-loop-done l = record {
  within : l.done ≤ l.len;
  line : l.room.line ≡ l.initial.room.line ++ bytes_text l.state.mips.memory l.start l.done;
  len : length l.room.line ≡ length l.initial.room.line + 2 * l.done;
  room : l.room.room ≡ l.initial.room.room;
}

abbrev pub decreases-loop-done : goal.decreases-loop-done
decreases-loop-done l = l.len - l.done
