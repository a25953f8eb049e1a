use Rattle.std.proofs.Common.{◌≡◌, ℕ, List}
use Rattle.ooo_clock.proofs.Repeats.{Goes}
use Rattle.ooo_clock.specs.Moves.{issue_move}
use Rattle.ooo_clock.specs.Shows.{AreSound, Stays, speeds_of}
use Rattle.ooo_clock.proofs.clock.Parts.issues.Given as goal

abbrev pub invariant-loop-issue : goal.invariant-loop-issue
invariant-loop-issue l =
    record {
      goes : (numbers : List ℕ) → Goes (issue_move (speeds_of l.initial.self)) l._issue l.initial.self l.initial.state.mips numbers l.self l.state.mips numbers;
      sound : AreSound l.self l.state.mips;
      stays : Stays l.initial.self l.self;
      computed : l.state.computed ≡ l.initial.state.computed;
    }
