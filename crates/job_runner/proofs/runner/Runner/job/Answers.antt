use Rattle.std.proofs.Common.{sym, ap, subst, ◌∙◌}
use Rattle.mode_states.specs.Kept.{IsPlanned}
use Rattle.mode_states.specs.Views.{Released}
use Rattle.job_runner.proofs.Choosing.{picked_planned}
use Rattle.job_runner.proofs.Ends.{ended_has_run, missed_has_run}
use Rattle.job_runner.proofs.runner.Runner.job.Goals as goal

pub release-requires-clause-planned : goal.release-requires-clause-planned
release-requires-clause-planned g c =
    let r = c.self.inside in
    picked_planned (record { idle = r.idle; history = r.history; ran = r.ran }) _ _ _ c.self.view_is c.self.invariant
    c.requires.planned c.plans.ensures.times c.plans.ensures.value c.pick-pair.ensures

pub missed_end-requires-clause-planned : goal.missed_end-requires-clause-planned
missed_end-requires-clause-planned g c =
    let r = c.self.inside in
    let kept = c.in-Missed.ensures.ends.kept ∙ ap (λ (f : Released). f.kept) c.release.ensures in
    subst (λ k. IsPlanned k c.pick-pair.result) (sym kept)
    (picked_planned (record { idle = r.idle; history = r.history; ran = r.ran }) _ _ _ c.self.view_is c.self.invariant
    c.requires.planned c.plans.ensures.times c.plans.ensures.value c.pick-pair.ensures)

pub returns-in-Ended : goal.returns-in-Ended
returns-in-Ended g c =
    let r = c.self.inside in
    let e = c.in-Ended.ensures in
    let d = c.fast_end.ensures in
    ended_has_run _ (record { idle = r.idle; history = r.history; ran = r.ran }) _ _ _ _ _ _ _ _ _ _ _ _ c.self.view_is
    c.saturating_add-number.ensures c.plans.ensures.value c.pick-pair.ensures c.release.ensures e.ends e.in_time d.idle
    d.ran d.job d.stands

pub returns-in-Missed : goal.returns-in-Missed
returns-in-Missed g c =
    let r = c.self.inside in
    let d = c.missed_end.ensures in
    missed_has_run _ (record { idle = r.idle; history = r.history; ran = r.ran }) _ _ _ _ _ _ _ _ _ _ _ c.self.view_is
    c.saturating_add-number.ensures c.plans.ensures.value c.pick-pair.ensures c.release.ensures
    c.in-Missed.ensures.ends d.ran
    (record { number = d.number ∙ sym d.ran; mode = d.mode; ends = d.ends; stands = d.stands }) d.in_time
