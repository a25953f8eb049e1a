use Rattle.std.proofs.Common.{◌≡◌, ◌+◌, ◌++◌, take, vec_len}
use Rattle.std.specs.Prelude.{vec_capacity}
use Rattle.task_text.proofs.line_room.append.Given as goal

-- the bytes before one were appended
abbrev pub invariant-loop-byte : goal.invariant-loop-byte
invariant-loop-byte l = record {
  items : l.line.items ≡ l.initial.line.items ++ take l.byte-index l.piece;
  len : vec_len l.line ≡ vec_len l.initial.line + l.byte-index;
  capacity : vec_capacity l.line ≡ vec_capacity l.initial.line;
}
