use Rattle.std.proofs.Common.{◌≡◌}
use Rattle.list_text.specs.Tables.{lines_at}
use Rattle.list_text.proofs.Runs.{IsBehind}
use Rattle.list_text.proofs.put.put_spans.Given as goal

-- the lines of the spans before it were put, and the words of the others are left
abbrev pub invariant-loop-span : goal.invariant-loop-span
invariant-loop-span g l = record {
  behind : IsBehind (lines_at l.table) (g.S.Sink.taken l.fn.sink) (g.S.Sink.taken l.sink) l.spans l.words l.span-index l.rest;
  room : l.room.room ≡ l.initial.room.room;
}
