use Rattle.std.proofs.Common.{length}
use Rattle.bound_checker.specs.Callees.{IsCalledFrom}
use Rattle.bound_checker.specs.Room.{Adds, IsRoom}
use Rattle.bound_checker.proofs.callees.put_all_called.Given as goal

abbrev pub invariant-loop-k : goal.invariant-loop-k
invariant-loop-k l = record {
  room_is : IsRoom (length l.g.units) l.room;
  adds : Adds (IsCalledFrom l.code l.g l.initial.k l.k) l.initial.room l.room;
}
