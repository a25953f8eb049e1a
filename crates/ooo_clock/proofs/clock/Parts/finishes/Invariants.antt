use Rattle.std.proofs.Common.{◌≡◌}
use Rattle.ooo_clock.proofs.Passed.{Finishing}
use Rattle.ooo_clock.specs.Shows.{AreSound, Stays}
use Rattle.ooo_clock.proofs.clock.Parts.finishes.Given as goal

abbrev pub invariant-loop-k : goal.invariant-loop-k
invariant-loop-k l =
    record {
      finishing : Finishing l.k l.initial.self l.initial.state.mips l.self l.state.mips;
      sound : AreSound l.self l.state.mips;
      stays : Stays l.initial.self l.self;
      computed : l.state.computed ≡ l.initial.state.computed;
    }
