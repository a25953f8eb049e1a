use Rattle.std.proofs.Common.{◌∙◌, arith}
use Rattle.mode_states.proofs.Runs.{before_watchdog, has_cycled, holds_more, runs_on, runs_out}
use Rattle.mode_states.proofs.running.run_to_stop.Goals as goal

pub returns-in-Ended-clause-stops : goal.returns-in-Ended-clause-stops
returns-in-Ended-clause-stops g c =
    let r = c.loop-fast.invariant.0 in
    let e = c.cycle-end.ensures in
    let h = has_cycled _ _ _ _ _ _ _ _ _ _ _ _ r.speeds r.clock e.q e.pcs e.ended e.cycle e.speeds e.computed
    c.cycles-cycle.ensures
    c.commits.ensures c.pass_all.ensures.progress c.pass_all.ensures.watching in
    let early = before_watchdog c.loop-fast.fast c.loop-fast.watch _ _ _ c.cycles.ensures c.sub.ensures
    c.loop-fast-test.true in
    runs_out _ _ _ _ _ _ _ _ _ _ _ _ _ c.requires.watchdogs r early h c.in-Ended.is _ c.cycles-cycle.ensures
    c.end_sub.ensures.progress

pub loop-fast-preserved : goal.loop-fast-preserved
loop-fast-preserved g c =
    let r = c.loop-fast.invariant.0 in
    let e = c.cycle-end.ensures in
    let h = has_cycled _ _ _ _ _ _ _ _ _ _ _ _ r.speeds r.clock e.q e.pcs e.ended e.cycle e.speeds e.computed
    c.cycles-cycle.ensures
    c.commits.ensures c.pass_all.ensures.progress c.pass_all.ensures.watching in
    let early = before_watchdog c.loop-fast.fast c.loop-fast.watch _ _ _ c.cycles.ensures c.sub.ensures
    c.loop-fast-test.true in (
      runs_on _ _ _ _ _ _ _ _ _ _ _ c.requires.watchdogs r early h
          (e.goes_on c.in_default.is),
      e.machine ∙ c.loop-fast.invariant.1,
    )

pub returns-in-Ended-clause-counts : goal.returns-in-Ended-clause-counts
returns-in-Ended-clause-counts g c =
    holds_more _ _ c.pass_all.new.self c.end_sub.new.self c.pass_all.ensures.watching c.end_sub.ensures.progress c.end_sub.ensures.capacity

pub returns-clause-counts : goal.returns-clause-counts
returns-clause-counts g c =
    let w = c.loop-fast.invariant.0.watching in
    record { few = omega (arith, w.sub); room = w.room }
