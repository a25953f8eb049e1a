use Rattle.std.proofs.Common.{arith}
use Rattle.mode_states.proofs.SimpleEnds.{is_end, is_started, never_limited, rests, simple_answer, simple_by_deadline, simple_ps}
use Rattle.mode_states.proofs.simple_run.SimpleRun.run.Goals as goal

pub run_to-requires-clause-started : goal.run_to-requires-clause-started
run_to-requires-clause-started c = is_started _ _ c.self.invariant.0.started

pub period-requires : goal.period-requires
period-requires c = c.self.invariant.0.in_points

pub overflow_mul-end_ps : goal.overflow_mul-end_ps
overflow_mul-end_ps c =
    let s = c.self.inside in
    let known = is_end s.kept s.state _ s.point s.spent_ps s.fast s.pipe _ _ _ c.self.invariant.0 c.in-Ended.ensures.stop
    in
    omega (arith, simple_ps s.kept s.state _ s.point s.spent_ps _ _ _ known c.period.ensures)

pub overflow_add-end_ps : goal.overflow_add-end_ps
overflow_add-end_ps c =
    let s = c.self.inside in
    let known = is_end s.kept s.state _ s.point s.spent_ps s.fast s.pipe _ _ _ c.self.invariant.0 c.in-Ended.ensures.stop
    in
    omega (arith, simple_ps s.kept s.state _ s.point s.spent_ps _ _ _ known c.period.ensures)

pub invariant_of-idle : goal.invariant_of-idle
invariant_of-idle c =
    let s = c.self.inside in
    let known = is_end s.kept s.state _ s.point s.spent_ps s.fast s.pipe _ _ _ c.self.invariant.0 c.in-Ended.ensures.stop
    in (
      rests s.kept s.state _ s.point s.spent_ps _ _ s.fast s.pipe _ c.self.invariant.0 known c.in-Ended.ensures.pipe,
      c.self.invariant.1,
    )

pub returns-clause-ends : goal.returns-clause-ends
returns-clause-ends c =
    let s = c.self.inside in
    let known = is_end s.kept s.state _ s.point s.spent_ps s.fast s.pipe _ _ _ c.self.invariant.0 c.in-Ended.ensures.stop
    in
    simple_answer s.kept s.state _ _ s.point _ s.spent_ps _ _ _ _ c.self.view_is known c.period.ensures

pub returns-clause-in_time : goal.returns-clause-in_time
returns-clause-in_time c =
    let s = c.self.inside in
    let known = is_end s.kept s.state _ s.point s.spent_ps s.fast s.pipe _ _ _ c.self.invariant.0 c.in-Ended.ensures.stop
    in
    simple_by_deadline s.kept s.state _ _ s.point _ s.spent_ps _ _ _ _ c.self.view_is known c.period.ensures

pub unreachable-requires : goal.unreachable-requires
unreachable-requires c =
    let s = c.self.inside in
    never_limited s.kept s.state _ s.point s.spent_ps s.fast s.pipe _ c.longest.ensures c.self.invariant.0
    c.in-Limit.ensures.stop
