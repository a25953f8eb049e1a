use Rattle.std.proofs.Common.{◌≡◌}
use Rattle.ooo_clock.proofs.Repeats.{Goes}
use Rattle.ooo_clock.specs.Moves.{fetch_move}
use Rattle.ooo_clock.specs.Shows.{AreSound, Stays, speeds_of}
use Rattle.ooo_clock.proofs.clock.Parts.fetches.Given as goal

abbrev pub invariant-loop-fetch : goal.invariant-loop-fetch
invariant-loop-fetch g l =
    record {
      goes : Goes (fetch_move (speeds_of l.initial.self) (record { guess = g.P.Predictor.guess_of; learnt = g.P.Predictor.learnt_of })) l._fetch
          l.initial.self l.initial.state.mips (g.P.Predictor.data_of l.p) l.self l.state.mips (g.P.Predictor.data_of l.p);
      sound : AreSound l.self l.state.mips;
      stays : Stays l.initial.self l.self;
      computed : l.state.computed ≡ l.initial.state.computed;
    }
