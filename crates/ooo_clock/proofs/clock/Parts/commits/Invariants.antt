use Rattle.std.proofs.Common.{◌≡◌, ◌≤◌, length}
use Rattle.std.specs.Prelude.{vec_capacity}
use Rattle.ooo_clock.proofs.Repeats.{Commits}
use Rattle.ooo_clock.specs.Shows.{AreSound, Stays, speeds_of}
use Rattle.ooo_clock.proofs.clock.Parts.commits.Given as goal

abbrev pub invariant-loop-commit : goal.invariant-loop-commit
invariant-loop-commit g l =
    record {
      commits : Commits (speeds_of l.initial.self) (record { guess = g.P.Predictor.guess_of; learnt = g.P.Predictor.learnt_of }) l._commit
          l.initial.self l.initial.state.mips (g.P.Predictor.data_of l.initial.p) l.self l.state.mips (g.P.Predictor.data_of l.p) l.pcs.items;
      few : length l.pcs.items ≤ l._commit;
      capacity : vec_capacity l.pcs ≡ vec_capacity l.initial.pcs;
      sound : AreSound l.self l.state.mips;
      stays : Stays l.initial.self l.self;
      computed : l.state.computed ≡ l.initial.state.computed;
    }
