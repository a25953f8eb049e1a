use Rattle.std.proofs.Common.{arith}
use Rattle.mode_states.proofs.Switched.{recovers, small_times}
use Rattle.mode_states.proofs.fast_run.Draining.switch.Goals as goal

pub switch_time-switch_ps-requires-clause-small : goal.switch_time-switch_ps-requires-clause-small
switch_time-switch_ps-requires-clause-small c =
    let d = c.self.inside in
    (small_times d.kept d.state d.pair d.sub d.at d.flight d.fast d.pipe _ _ c.period-pa.ensures c.period-pb.ensures
    c.self.invariant.0).time

pub switch_time-switch_ps-requires-clause-pb : goal.switch_time-switch_ps-requires-clause-pb
switch_time-switch_ps-requires-clause-pb c =
    let d = c.self.inside in
    omega (
      arith,
      (small_times d.kept d.state d.pair d.sub d.at d.flight d.fast d.pipe _ _ c.period-pa.ensures c.period-pb.ensures
          c.self.invariant.0).least,
    )

pub overflow_mul-spent_ps : goal.overflow_mul-spent_ps
overflow_mul-spent_ps c =
    let d = c.self.inside in
    omega (
      arith,
      (small_times d.kept d.state d.pair d.sub d.at d.flight d.fast d.pipe _ _ c.period-pa.ensures c.period-pb.ensures
          c.self.invariant.0).waited,
    )

pub overflow_add-spent_ps : goal.overflow_add-spent_ps
overflow_add-spent_ps c =
    let d = c.self.inside in
    omega (
      arith,
      (small_times d.kept d.state d.pair d.sub d.at d.flight d.fast d.pipe _ _ c.period-pa.ensures c.period-pb.ensures
          c.self.invariant.0).begun,
    )

pub overflow_add-spent_ps-2 : goal.overflow_add-spent_ps-2
overflow_add-spent_ps-2 c =
    let d = c.self.inside in
    omega (
      arith,
      c.switch_time-switch_ps.ensures,
      (small_times d.kept d.state d.pair d.sub d.at d.flight d.fast d.pipe _ _ c.period-pa.ensures c.period-pb.ensures
          c.self.invariant.0).both,
    )

pub open-requires : goal.open-requires
open-requires c =
    let d = c.self.inside in
    (small_times d.kept d.state d.pair d.sub d.at d.flight d.fast d.pipe _ _ c.period-pa.ensures c.period-pb.ensures
    c.self.invariant.0).least

pub start-requires-clause-least : goal.start-requires-clause-least
start-requires-clause-least c =
    let d = c.self.inside in
    (small_times d.kept d.state d.pair d.sub d.at d.flight d.fast d.pipe _ _ c.period-pa.ensures c.period-pb.ensures
    c.self.invariant.0).least

pub start-requires-clause-greatest : goal.start-requires-clause-greatest
start-requires-clause-greatest c =
    let d = c.self.inside in
    (small_times d.kept d.state d.pair d.sub d.at d.flight d.fast d.pipe _ _ c.period-pa.ensures c.period-pb.ensures
    c.self.invariant.0).most

pub invariant_of-result : goal.invariant_of-result
invariant_of-result c =
    let d = c.self.inside in (
      recovers d.kept d.state d.pair d.sub d.at d.flight d.fast _ d.pipe _ _ _ _ c.period-pa.ensures c.period-pb.ensures
          c.switch_time-switch_ps.ensures c.self.invariant.0
          c.open.ensures.clock c.open.ensures.beside c.open.ensures.speeds c.open.ensures.machine c.open.ensures.cycle
          c.start.ensures,
      c.self.invariant.1,
    )
