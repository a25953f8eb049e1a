use Rattle.std.proofs.Common.{subst}
use Rattle.mode_states.specs.Kept.{AreTimesOf}
use Rattle.mode_states.specs.Views.{Resting}
use Rattle.mode_states.proofs.Times.{times_of}
use Rattle.mode_states.proofs.idle.Idle.plans.Goals as goal

pub returns-clause-times : goal.returns-clause-times
returns-clause-times c =
    let s = c.self.inside in
    subst (λ (r : Resting). AreTimesOf r.kept) c.self.view_is (times_of s.kept s.state c.self.invariant.0.kept)
