use Rattle.std.proofs.Common.{◌≡◌, length, take}
use Rattle.std.specs.List.{flat_map, range_with_len}
use Rattle.visa_io.specs.Puts.{PutAll}
use Rattle.admission.specs.Found.{bounds_at}
use Rattle.log_text.specs.Check.{bound_lines}
use Rattle.visa_cli.proofs.checking.put_all_bounds.Given as goal

-- the lines of the points before it were put
abbrev pub invariant-loop-point : goal.invariant-loop-point
invariant-loop-point g l = record {
  puts : PutAll (g.S.Sink.taken l.fn.sink) (g.S.Sink.taken l.sink)
      (flat_map (λ point. bound_lines point (bounds_at l.admitted.times.bounds point)) (take l.point (range_with_len 0 (length l.admitted.task.points))));
  room : l.room.room ≡ l.initial.room.room;
}
