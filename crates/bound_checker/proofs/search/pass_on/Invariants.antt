use Rattle.std.proofs.Common.{length}
use Rattle.flow_graph.specs.declared.parts.Edge.{Edge}
use Rattle.bound_checker.specs.Room.{Adds, IsRoom}
use Rattle.bound_checker.proofs.Searching.{LeadsFrom}
use Rattle.bound_checker.proofs.search.pass_on.Given as goal

abbrev pub invariant-loop-i : goal.invariant-loop-i
invariant-loop-i l = record {
  room_is : IsRoom (length l.g.units) l.room;
  adds : (d : Edge) → Adds (LeadsFrom l.code l.g l.scope d l.initial.i l.i) l.initial.room l.room;
}
