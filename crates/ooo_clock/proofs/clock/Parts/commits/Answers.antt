use Rattle.std.proofs.Common.{◌≡◌, ◌+◌, true, false, cond, [], ◌∷◌, ◌++◌, length, ap, refl, sym, subst, arith, ◌∙◌}
use Rattle.std.proofs.lemmas.Grind.{common_steps}
use Rattle.ooo_clock.proofs.Repeats.{Commits, all-commits, made-at, more-commits, none-commits, noted-few, speeds-stay, stays-on, stays-same}
use Rattle.ooo_clock.specs.Clock.{Predicts, Speeds}
use Rattle.ooo_clock.specs.Moves.{commit_move}
use Rattle.ooo_clock.specs.Shows.{speeds_of}
use Rattle.ooo_clock.specs.Views.{is_trap}
use Rattle.ooo_clock.proofs.clock.Parts.commits.Goals as goal

pub loop-commit-init : goal.loop-commit-init
loop-commit-init g c =
    let p : Predicts = record { guess = g.P.Predictor.guess_of; learnt = g.P.Predictor.learnt_of } in
    let numbers = g.P.Predictor.data_of c.args.p.now in
    record {
      commits = subst (Commits (speeds_of c.args.self.now) p 0 c.args.self.now c.args.state.now.mips numbers c.args.self.now c.args.state.now.mips numbers)
          (sym c.clear.ensures.items) (none-commits (speeds_of c.args.self.now) p c.args.self.now c.args.state.now.mips numbers);
      few = omega (arith, ap length c.clear.ensures.items);
      capacity = refl;
      sound = c.requires.sound;
      stays = stays-same c.args.self.now;
      computed = refl;
    }

pub loop-commit-preserved : goal.loop-commit-preserved
loop-commit-preserved g c =
    let p : Predicts = record { guess = g.P.Predictor.guess_of; learnt = g.P.Predictor.learnt_of } in
    let r = c.args.self.now in
    let i = c.loop-commit.invariant in
    let n = c.commit_once.new.self in
    let y = c.commit_once.new.state.mips in
    let went : c.commit_once.result ≡ true = grind (arith, common_steps, c.if-not-commit_once.false) in
    let made = made-at (λ (s : Speeds). commit_move s p) (speeds_of c.loop-commit.self) (speeds_of r) c.commit_once.result true c.loop-commit.self
    c.loop-commit.state.mips (g.P.Predictor.data_of c.loop-commit.p) n y (g.P.Predictor.data_of c.commit_once.new.p)
    (speeds-stay r c.loop-commit.self i.stays) went c.commit_once.ensures.made in
    let pushed = cond (is_trap n.window.ending) [] (y.pc ∷ []) in
    let noted : c.note.new.pcs.items ≡ c.loop-commit.pcs.items ++ pushed =
    c.note.ensures.items ∙ ap (λ o. c.loop-commit.pcs.items ++ cond (is_trap o) [] (c.pc.result ∷ [])) c.ending.ensures
    ∙ ap (λ a. c.loop-commit.pcs.items ++ cond (is_trap n.window.ending) [] (a ∷ [])) c.pc.ensures in
    let more = more-commits (speeds_of r) p c.loop-commit._commit r c.args.state.now.mips (g.P.Predictor.data_of c.args.p.now) c.loop-commit.self
    c.loop-commit.state.mips (g.P.Predictor.data_of c.loop-commit.p) n y (g.P.Predictor.data_of c.commit_once.new.p) c.loop-commit.pcs.items pushed
    i.commits made (c.commit_once.ensures.pcs went) in
    record {
      commits = subst (Commits (speeds_of r) p (c.loop-commit._commit + 1) r c.args.state.now.mips (g.P.Predictor.data_of c.args.p.now) n y
          (g.P.Predictor.data_of c.commit_once.new.p)) (sym noted) more;
      few = omega (arith, i.few, noted-few (is_trap n.window.ending) c.loop-commit.pcs.items y.pc, ap length noted);
      capacity = c.note.ensures.capacity ∙ i.capacity;
      sound = c.commit_once.ensures.sound;
      stays = stays-on r c.loop-commit.self n i.stays c.commit_once.ensures.stays;
      computed = c.commit_once.ensures.computed ∙ i.computed;
    }

pub returns-then-not-commit_once-clause-shows : goal.returns-then-not-commit_once-clause-shows
returns-then-not-commit_once-clause-shows g c =
    let p : Predicts = record { guess = g.P.Predictor.guess_of; learnt = g.P.Predictor.learnt_of } in
    let r = c.args.self.now in
    let i = c.loop-commit.invariant in
    let none : c.commit_once.result ≡ false = grind (arith, common_steps, c.if-not-commit_once.true) in
    let made = made-at (λ (s : Speeds). commit_move s p) (speeds_of c.loop-commit.self) (speeds_of r) c.commit_once.result false c.loop-commit.self
    c.loop-commit.state.mips (g.P.Predictor.data_of c.loop-commit.p) c.commit_once.new.self c.commit_once.new.state.mips
    (g.P.Predictor.data_of c.commit_once.new.p) (speeds-stay r c.loop-commit.self i.stays) none c.commit_once.ensures.made in
    let all = all-commits (speeds_of r) p _ r.pace.width _ _ _ _ _ _ _ _ _ _ (omega arith) i.commits made in
    all.goes.shows

pub returns-then-not-commit_once-clause-pcs : goal.returns-then-not-commit_once-clause-pcs
returns-then-not-commit_once-clause-pcs g c =
    let p : Predicts = record { guess = g.P.Predictor.guess_of; learnt = g.P.Predictor.learnt_of } in
    let r = c.args.self.now in
    let i = c.loop-commit.invariant in
    let none : c.commit_once.result ≡ false = grind (arith, common_steps, c.if-not-commit_once.true) in
    let made = made-at (λ (s : Speeds). commit_move s p) (speeds_of c.loop-commit.self) (speeds_of r) c.commit_once.result false c.loop-commit.self
    c.loop-commit.state.mips (g.P.Predictor.data_of c.loop-commit.p) c.commit_once.new.self c.commit_once.new.state.mips
    (g.P.Predictor.data_of c.commit_once.new.p) (speeds-stay r c.loop-commit.self i.stays) none c.commit_once.ensures.made in
    let all = all-commits (speeds_of r) p _ r.pace.width _ _ _ _ _ _ _ _ _ _ (omega arith) i.commits made in
    all.pcs_are
