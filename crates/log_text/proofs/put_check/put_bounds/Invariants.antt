use Rattle.std.proofs.Common.{◌≡◌, ◌+◌, length, take}
use Rattle.std.specs.Prelude.{map, slice_index}
use Rattle.std.specs.List.{range_with_len}
use Rattle.visa_io.specs.Puts.{PutAll}
use Rattle.log_text.specs.Check.{bound_line}
use Rattle.log_text.proofs.put_check.put_bounds.Given as goal

-- the lines of the bounds before it were put
abbrev pub invariant-loop-k : goal.invariant-loop-k
invariant-loop-k g l = record {
  puts : PutAll (g.S.Sink.taken l.fn.sink) (g.S.Sink.taken l.sink)
      (map (λ k. bound_line l.point (k + 1) (slice_index l.bounds k)) (take l.k (range_with_len 0 (length l.bounds))));
  room : l.room.room ≡ l.initial.room.room;
}
