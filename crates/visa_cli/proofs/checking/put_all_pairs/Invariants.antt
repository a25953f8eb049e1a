use Rattle.std.proofs.Common.{◌≡◌, length, take}
use Rattle.std.specs.Prelude.{map}
use Rattle.std.specs.List.{flat_map, range_with_len}
use Rattle.visa_io.specs.Puts.{PutAll}
use Rattle.visa_cli.specs.Check.{pair_line, points_of}
use Rattle.visa_cli.proofs.checking.put_all_pairs.Given as goal

-- the lines of the pairs with an earlier first point were put
abbrev pub invariant-loop-a : goal.invariant-loop-a
invariant-loop-a g l = record {
  puts : PutAll (g.S.Sink.taken l.fn.sink) (g.S.Sink.taken l.sink)
      (flat_map (λ a. map (pair_line l.admitted.task l.admitted.times a) (points_of l.admitted.task)) (take l.a (range_with_len 0 (length l.admitted.task.points))));
  room : l.room.room ≡ l.initial.room.room;
}
