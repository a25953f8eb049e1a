use Rattle.std.proofs.Common.{◌≡◌, ◌++◌, take}
use Rattle.std.specs.List.{flat_map}
use Rattle.task_text.specs.declared.row.Row.TheVariants as row
use Rattle.task_text.specs.Writing.{row_text, extent}
use Rattle.task_text.proofs.writing.push_show.Given as goal

abbrev pub invariant-loop-s : goal.invariant-loop-s
invariant-loop-s l = l.out.items ≡ l.initial.out.items ++ flat_map (λ s. row_text (row.Show (extent s))) (take l.s-index l.spans)
