use Rattle.std.proofs.Common.{◌≡◌, List, length, take}
use Rattle.frequency_pick.specs.Counts.{Count, StandsFor}
use Rattle.job_runner.specs.Run.{with_subs}
use Rattle.job_runner.proofs.telling.tell.Given as goal

abbrev pub invariant-loop-i : goal.invariant-loop-i
invariant-loop-i l = record {
  subs : length l.history ≡ length l.fn.history;
  stands : (cs : List Count) → StandsFor l.fn.history cs → StandsFor l.history (with_subs 1 (take l.i l.counts) cs);
}
