use Rattle.std.proofs.Common.{◌≡◌, ◌-◌, ◌^◌}
use Rattle.ooo_clock.specs.Clock.{Predicts}
use Rattle.mode_states.specs.Loop.{IsRunning, course_from}
use Rattle.mode_states.proofs.running.run_to_stop.Given as goal

abbrev pub invariant-loop-fast : goal.invariant-loop-fast
invariant-loop-fast g l =
    let numbers = g.P.Predictor.data_of l.fn.p in
    let predicts : Predicts = record { guess = g.P.Predictor.guess_of; learnt = g.P.Predictor.learnt_of } in
    IsRunning
    (course_from predicts l.fn.fast l.fn.state.mips numbers l.cuts l.watchdogs) l.fn.state l.state l.fast l.watch
    (g.P.Predictor.data_of l.p)
    × (l.fast.machine ≡ l.fn.fast.machine)

abbrev pub decreases-loop-fast : goal.decreases-loop-fast
decreases-loop-fast g l = 10 ^ 12 - l.fast.cycle
