use Rattle.std.proofs.Common.{◌≡◌, length, take}
use Rattle.std.specs.Prelude.{map}
use Rattle.std.specs.List.{range_with_len}
use Rattle.visa_io.specs.Puts.{PutAll}
use Rattle.visa_cli.specs.Check.{pair_line}
use Rattle.visa_cli.proofs.checking.put_pairs_with.Given as goal

-- the lines of the pairs before it were put
abbrev pub invariant-loop-b : goal.invariant-loop-b
invariant-loop-b g l = record {
  puts : PutAll (g.S.Sink.taken l.fn.sink) (g.S.Sink.taken l.sink)
      (map (pair_line l.admitted.task l.admitted.times l.a) (take l.b (range_with_len 0 (length l.admitted.task.points))));
  room : l.room.room ≡ l.initial.room.room;
}
