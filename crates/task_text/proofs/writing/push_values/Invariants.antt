use Rattle.std.proofs.Common.{◌≡◌, ◌++◌, ◌∷◌, take}
use Rattle.std.specs.List.{flat_map}
use Rattle.task_text.specs.Writing.{value_text}
use Rattle.task_text.proofs.writing.push_values.Given as goal

abbrev pub invariant-loop-v : goal.invariant-loop-v
invariant-loop-v l = l.out.items ≡ l.initial.out.items ++ flat_map (λ v. 32 ∷ value_text v) (take l.v-index l.values)
