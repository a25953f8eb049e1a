use Rattle.std.proofs.Common.{◌≡◌, ◌<◌, ℕ, false, take}
use Rattle.ooo_clock.specs.Moves.{is_due}
use Rattle.ooo_clock.specs.Owing.{Owes}
use Rattle.ooo_clock.specs.Shows.{AreSound, issue_due_in}
use Rattle.ooo_clock.proofs.clock.Parts.issue_once.Given as goal

abbrev pub invariant-loop-k : goal.invariant-loop-k
invariant-loop-k l =
    record {
      parts : l.self ≡ l.initial.self;
      mips : l.state.mips ≡ l.initial.state.mips;
      computed : l.state.computed ≡ l.initial.state.computed;
      sound : AreSound l.self l.state.mips;
      owes : Owes l.older (take l.k l.initial.self.window.entries) l.initial.state.mips;
      none : (j : ℕ) → j < l.k → is_due (issue_due_in l.initial.self l.initial.state.mips j) l.initial.self.cycle ≡ false;
    }
