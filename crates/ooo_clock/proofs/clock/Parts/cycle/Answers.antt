use Rattle.std.proofs.Common.{sym, subst, ◌∙◌}
use Rattle.ooo_clock.proofs.Performed.{cycle-shows}
use Rattle.ooo_clock.proofs.Quiet.{cycle-pcs}
use Rattle.ooo_clock.proofs.Repeats.{speeds-stay}
use Rattle.ooo_clock.specs.Clock.{Predicts, Speeds}
use Rattle.ooo_clock.specs.Cycle.{commits_in, cycled_of, unless_ended}
use Rattle.core_window.specs.Events.{is_open}
use Rattle.ooo_clock.specs.Shows.{Shows, speeds_of}
use Rattle.ooo_clock.proofs.clock.Parts.cycle.Goals as goal

pub returns-clause-shows : goal.returns-clause-shows
returns-clause-shows g c =
    let p : Predicts = record { guess = g.P.Predictor.guess_of; learnt = g.P.Predictor.learnt_of } in
    let r = c.args.self.now in
    let after = g.P.Predictor.data_of c.commits.new.p in
    λ q h.
    let m = commits_in (speeds_of r) p q in
    cycle-shows (speeds_of r) p c.after_commits.new.self c.after_commits.new.state.mips after q
    (subst (λ (s : Speeds). Shows c.after_commits.new.self c.after_commits.new.state.mips after (unless_ended s p (is_open m.clock.core.ending) m).clock)
    (speeds-stay r c.commits.new.self c.commits.ensures.stays) (c.after_commits.ensures.shows m (c.commits.ensures.shows q h)))

pub returns-clause-pcs : goal.returns-clause-pcs
unfolding cycled_of
returns-clause-pcs g c =
    let p : Predicts = record { guess = g.P.Predictor.guess_of; learnt = g.P.Predictor.learnt_of } in
    λ q h. c.commits.ensures.pcs q h ∙ sym (cycle-pcs (speeds_of c.args.self.now) p q)
