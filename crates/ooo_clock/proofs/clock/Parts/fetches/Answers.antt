use Rattle.std.proofs.Common.{◌≡◌, true, false, refl, arith, ◌∙◌}
use Rattle.std.proofs.lemmas.Grind.{common_steps}
use Rattle.ooo_clock.proofs.Repeats.{all-goes, made-at, more-goes, none-goes, speeds-stay, stays-on, stays-same}
use Rattle.ooo_clock.specs.Clock.{Predicts, Speeds}
use Rattle.ooo_clock.specs.Moves.{fetch_move}
use Rattle.ooo_clock.specs.Shows.{speeds_of}
use Rattle.ooo_clock.proofs.clock.Parts.fetches.Goals as goal

pub loop-fetch-init : goal.loop-fetch-init
loop-fetch-init g c =
    let p : Predicts = record { guess = g.P.Predictor.guess_of; learnt = g.P.Predictor.learnt_of } in
    record {
      goes = none-goes (fetch_move (speeds_of c.args.self.now) p) c.args.self.now c.args.state.now.mips (g.P.Predictor.data_of c.args.p.now);
      sound = c.requires;
      stays = stays-same c.args.self.now;
      computed = refl;
    }

pub loop-fetch-preserved : goal.loop-fetch-preserved
loop-fetch-preserved g c =
    let p : Predicts = record { guess = g.P.Predictor.guess_of; learnt = g.P.Predictor.learnt_of } in
    let i = c.loop-fetch.invariant in
    let went : c.fetch_once.result ≡ true = grind (arith, common_steps, c.if-not-fetch_once.false) in
    let made = made-at (λ (s : Speeds). fetch_move s p) (speeds_of c.loop-fetch.self) (speeds_of c.args.self.now) c.fetch_once.result true c.loop-fetch.self
    c.loop-fetch.state.mips (g.P.Predictor.data_of c.args.p.now) c.fetch_once.new.self c.fetch_once.new.state.mips (g.P.Predictor.data_of c.args.p.now)
    (speeds-stay c.args.self.now c.loop-fetch.self i.stays) went c.fetch_once.ensures.made in
    record {
      goes = more-goes _ _ _ _ _ _ _ _ _ _ _ i.goes made;
      sound = c.fetch_once.ensures.sound;
      stays = stays-on c.args.self.now c.loop-fetch.self c.fetch_once.new.self i.stays c.fetch_once.ensures.stays;
      computed = c.fetch_once.ensures.computed ∙ i.computed;
    }

pub returns-then-not-fetch_once-clause-shows : goal.returns-then-not-fetch_once-clause-shows
returns-then-not-fetch_once-clause-shows g c =
    let p : Predicts = record { guess = g.P.Predictor.guess_of; learnt = g.P.Predictor.learnt_of } in
    let i = c.loop-fetch.invariant in
    let none : c.fetch_once.result ≡ false = grind (arith, common_steps, c.if-not-fetch_once.true) in
    let made = made-at (λ (s : Speeds). fetch_move s p) (speeds_of c.loop-fetch.self) (speeds_of c.args.self.now) c.fetch_once.result false c.loop-fetch.self
    c.loop-fetch.state.mips (g.P.Predictor.data_of c.args.p.now) c.fetch_once.new.self c.fetch_once.new.state.mips (g.P.Predictor.data_of c.args.p.now)
    (speeds-stay c.args.self.now c.loop-fetch.self i.stays) none c.fetch_once.ensures.made in
    let all = all-goes _ _ c.args.self.now.pace.width _ _ _ _ _ _ _ _ _ (omega arith) i.goes made in
    all.shows
