use Rattle.std.proofs.Common.{take}
use Rattle.visa_io.specs.Puts.{PutAll}
use Rattle.list_text.specs.Tables.{lines_at}
use Rattle.list_text.proofs.put.put_run.Given as goal

-- the lines before it at the address were put
abbrev pub invariant-loop-symbol : goal.invariant-loop-symbol
invariant-loop-symbol g l = PutAll (g.S.Sink.taken l.fn.sink) (g.S.Sink.taken l.sink) (lines_at (take l.symbol-index l.run) l.at)
