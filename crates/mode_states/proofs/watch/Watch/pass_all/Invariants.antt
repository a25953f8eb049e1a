use Rattle.std.proofs.Common.{◌≡◌, length, drop}
use Rattle.mode_states.specs.Fits.{IsWatching, progress_of}
use Rattle.mode_states.specs.Progress.{all_passed}
use Rattle.mode_states.proofs.watch.Watch.pass_all.Given as goal

abbrev pub invariant-loop-pc : goal.invariant-loop-pc
invariant-loop-pc l =
    (all_passed l.cuts l.cycle (progress_of l.self) (drop l.pc-index l.pcs) ≡ all_passed l.cuts l.cycle
    (progress_of l.fn.self) l.pcs)
    × IsWatching (length l.cuts) l.cycle l.self
