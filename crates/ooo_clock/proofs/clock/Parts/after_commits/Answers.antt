use Rattle.std.proofs.Common.{ap, sym, ◌∙◌}
use Rattle.std.specs.Prelude.{is_some}
use Rattle.ooo_clock.proofs.Performed.{ended-shows, going-shows}
use Rattle.ooo_clock.specs.Clock.{Predicts}
use Rattle.ooo_clock.proofs.clock.Parts.after_commits.Goals as goal

pub returns-then-is_some-clause-shows : goal.returns-then-is_some-clause-shows
returns-then-is_some-clause-shows g c =
    let p : Predicts = record { guess = g.P.Predictor.guess_of; learnt = g.P.Predictor.learnt_of } in
    λ m h. ended-shows p c.args.self.now c.args.state.now.mips (g.P.Predictor.data_of c.args.p.now) m h
    (ap is_some (sym c.ending.ensures) ∙ sym c.is_some.ensures ∙ c.if-is_some.true)

pub returns-clause-shows : goal.returns-clause-shows
returns-clause-shows g c =
    let p : Predicts = record { guess = g.P.Predictor.guess_of; learnt = g.P.Predictor.learnt_of } in
    let numbers = g.P.Predictor.data_of c.args.p.now in
    λ m h. going-shows p c.args.self.now c.finishes.new.self c.issues.new.self c.fetches.new.self c.args.state.now.mips c.finishes.new.state.mips
    c.issues.new.state.mips c.fetches.new.state.mips numbers m h (ap is_some (sym c.ending.ensures) ∙ sym c.is_some.ensures ∙ c.if-is_some.false)
    c.finishes.ensures.stays c.issues.ensures.stays (c.finishes.ensures.shows numbers) (c.issues.ensures.shows numbers) c.fetches.ensures.shows
