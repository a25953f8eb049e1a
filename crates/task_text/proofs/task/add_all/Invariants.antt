use Rattle.std.proofs.Common.{◌≡◌, ◌++◌, take}
use Rattle.task_text.proofs.task.add_all.Given as goal

abbrev pub invariant-loop-w : goal.invariant-loop-w
invariant-loop-w l = l.words ≡ l.initial.words ++ take l.w-index l.more
