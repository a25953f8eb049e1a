use Rattle.std.proofs.Common.{◌≡◌, take}
use Rattle.visa_io.specs.Puts.{PutAll}
use Rattle.list_text.specs.Lists.{lines_from}
use Rattle.list_text.specs.Tables.{lines_at}
use Rattle.list_text.proofs.put.put_words.Given as goal

-- the lines of the words before it were put
abbrev pub invariant-loop-i : goal.invariant-loop-i
invariant-loop-i g l = record {
  puts : PutAll (g.S.Sink.taken l.fn.sink) (g.S.Sink.taken l.sink) (lines_from (lines_at l.table) l.at (take l.i l.words));
  room : l.room.room ≡ l.initial.room.room;
}
