use Rattle.std.proofs.Common.{◌≡◌, ◌++◌, take}
use Rattle.std.specs.List.{flat_map}
use Rattle.task_text.specs.declared.row.Row.TheVariants as row
use Rattle.task_text.specs.Writing.{row_text}
use Rattle.task_text.proofs.writing.push_cuts.Given as goal

abbrev pub invariant-loop-a : goal.invariant-loop-a
invariant-loop-a l = l.out.items ≡ l.initial.out.items ++ flat_map (λ a. row_text (row.Cut a)) (take l.a-index l.cuts)
