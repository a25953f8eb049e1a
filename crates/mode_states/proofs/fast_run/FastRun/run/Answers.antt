use Rattle.std.proofs.Common.{ap, ◌+◌}
use Rattle.mode_states.proofs.FastEnds.{are_watchdogs, counts_held, drains, ended_by_deadline, ended_end, ends_early, has_stopped, missed_end, runs}
use Rattle.mode_states.proofs.fast_run.FastRun.run.Goals as goal

pub run_to_stop-stopped-requires-clause-watchdogs : goal.run_to_stop-stopped-requires-clause-watchdogs
run_to_stop-stopped-requires-clause-watchdogs g c =
    let d = c.self.inside in
    are_watchdogs d.kept d.state d.pair d.fast d.pipe d.watch _ _ c.self.invariant c.as_slice.ensures
    c.watchdogs.ensures

pub run_to_stop-stopped-requires-clause-running : goal.run_to_stop-stopped-requires-clause-running
run_to_stop-stopped-requires-clause-running g c =
    let d = c.self.inside in
    runs _ d.kept d.state d.pair d.fast d.pipe d.watch _ _ _ c.self.invariant c.as_slice.ensures

pub invariant_of-result : goal.invariant_of-result
invariant_of-result g c =
    let d = c.self.inside in (
      drains _ d.kept d.state _ d.pair d.fast _ d.pipe d.watch _ _ _ _ _ _ c.self.invariant
          (has_stopped _ d.kept d.state _ d.pair d.fast _ d.pipe d.watch _ _ _ _ _ _ c.self.invariant c.as_slice.ensures
          c.watchdogs.ensures c.in-None.ensures.stops)
          (ap (λ n. n + 1) c.sub.ensures) c.cycles.ensures c.in_flight.ensures.least c.run_to_stop-stopped.ensures.machine,
      counts_held d.kept _ _ _ c.as_slice.ensures c.run_to_stop-stopped.ensures.counts,
    )

pub end-idle-requires-clause-fits : goal.end-idle-requires-clause-fits
end-idle-requires-clause-fits g c =
    let d = c.self.inside in
    ends_early _ d.kept d.state _ d.pair d.fast _ d.pipe d.watch _ _ _ _ c.self.invariant
    (has_stopped _ d.kept d.state _ d.pair d.fast _ d.pipe d.watch _ _ _ _ _ _ c.self.invariant c.as_slice.ensures
    c.watchdogs.ensures c.in-Some.ensures.stops)
    c.run_to_stop-stopped.ensures.machine

pub end-idle-requires-clause-counts : goal.end-idle-requires-clause-counts
end-idle-requires-clause-counts g c =
    counts_held c.self.inside.kept _ _ _ c.as_slice.ensures c.run_to_stop-stopped.ensures.counts

pub returns-in-None-clause-ends : goal.returns-in-None-clause-ends
returns-in-None-clause-ends g c =
    let d = c.self.inside in
    missed_end _ d.kept d.state _ d.pair _ _ _ _ _ _ _ _ c.self.view_is
    (has_stopped _ d.kept d.state _ d.pair d.fast _ d.pipe d.watch _ _ _ _ _ _ c.self.invariant c.as_slice.ensures
    c.watchdogs.ensures c.in-None.ensures.stops)
    (ap (λ n. n + 1) c.sub.ensures) c.cycles.ensures c.in_flight.ensures.is

pub returns-in-Some-clause-ends : goal.returns-in-Some-clause-ends
returns-in-Some-clause-ends g c =
    let d = c.self.inside in
    ended_end _ d.kept d.state _ d.pair _ _ _ _ _ _ _ _ c.self.view_is
    (has_stopped _ d.kept d.state _ d.pair d.fast _ d.pipe d.watch _ _ _ _ _ _ c.self.invariant c.as_slice.ensures
    c.watchdogs.ensures c.in-Some.ensures.stops)
    c.end-idle.ensures.idle c.end-idle.ensures.ending

pub returns-in-Some-clause-in_time : goal.returns-in-Some-clause-in_time
returns-in-Some-clause-in_time g c =
    let d = c.self.inside in
    ended_by_deadline d.kept d.state _ d.pair _ d.pipe _ _ _ c.self.view_is
    (ends_early _ d.kept d.state _ d.pair d.fast _ d.pipe d.watch _ _ _ _ c.self.invariant
    (has_stopped _ d.kept d.state _ d.pair d.fast _ d.pipe d.watch _ _ _ _ _ _ c.self.invariant c.as_slice.ensures
    c.watchdogs.ensures c.in-Some.ensures.stops)
    c.run_to_stop-stopped.ensures.machine) c.end-idle.ensures.ending
