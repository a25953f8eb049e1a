use Rattle.std.proofs.Common.{◌≡◌, take}
use Rattle.frequency_pick.specs.Counts.{StandsFor}
use Rattle.visa_cli.specs.Run.{told_counts}
use Rattle.visa_cli.proofs.running.tell_past.Given as goal

-- the counts before it were told, and nothing else has changed
abbrev pub invariant-loop-told : goal.invariant-loop-told
invariant-loop-told l = record {
  idle : l.runner.idle ≡ l.fn.runner.idle;
  ran : l.runner.ran ≡ l.fn.runner.ran;
  counts : StandsFor l.runner.history (told_counts (take l.told-index l.past));
}
