use Rattle.std.proofs.Common.{◌≡◌, ◌+◌, length, take}
use Rattle.std.specs.Prelude.{map, slice_index}
use Rattle.std.specs.List.{range_with_len}
use Rattle.visa_io.specs.Puts.{PutAll}
use Rattle.log_text.specs.Lines.{sub_line}
use Rattle.log_text.proofs.put.put_subs.Given as goal

-- the lines of the sub-tasks before it were put
abbrev pub invariant-loop-k : goal.invariant-loop-k
invariant-loop-k g l = record {
  puts : PutAll (g.S.Sink.taken l.fn.sink) (g.S.Sink.taken l.sink)
      (map (λ k. sub_line (k + 1) (slice_index l.counts k)) (take l.k (range_with_len 0 (length l.counts))));
  room : l.room.room ≡ l.initial.room.room;
}
