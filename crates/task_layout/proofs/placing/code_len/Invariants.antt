use Rattle.std.proofs.Common.{◌≡◌, ◌+◌, drop}
use Rattle.task_layout.specs.Layout.{code_len}
use Rattle.task_layout.proofs.placing.code_len.Given as goal

abbrev pub invariant-loop-span : goal.invariant-loop-span
invariant-loop-span l = l.total + code_len (drop l.span-index l.spans) ≡ code_len l.spans
