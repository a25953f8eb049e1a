use Rattle.std.proofs.Common.{◌≡◌, take}
use Rattle.visa_io.specs.Puts.{PutAll}
use Rattle.log_text.specs.Lines.{shown_lines}
use Rattle.log_text.proofs.put.put_shown.Given as goal

-- the lines of the ranges before it were put
abbrev pub invariant-loop-span : goal.invariant-loop-span
invariant-loop-span g l = record {
  puts : PutAll (g.S.Sink.taken l.fn.sink) (g.S.Sink.taken l.sink) (shown_lines l.state.mips.memory (take l.span-index l.show));
  room : l.room.room ≡ l.initial.room.room;
}
