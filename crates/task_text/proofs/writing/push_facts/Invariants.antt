use Rattle.std.proofs.Common.{◌≡◌, ◌++◌, take}
use Rattle.std.specs.List.{flat_map}
use Rattle.task_text.specs.declared.row.Row.TheVariants as row
use Rattle.task_text.specs.Writing.{row_text}
use Rattle.task_text.proofs.writing.push_facts.Given as goal

abbrev pub invariant-loop-f : goal.invariant-loop-f
invariant-loop-f l = l.out.items ≡ l.initial.out.items ++ flat_map (λ f. row_text (row.Fact f)) (take l.f-index l.facts)
