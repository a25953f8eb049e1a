use Rattle.std.proofs.Common.{◌≡◌, ◌++◌, ◌∷◌, take}
use Rattle.std.specs.List.{flat_map}
use Rattle.text_fields.specs.Numbers.{hex_text}
use Rattle.task_text.proofs.writing.push_hex_words.Given as goal

abbrev pub invariant-loop-w : goal.invariant-loop-w
invariant-loop-w l = l.out.items ≡ l.initial.out.items ++ flat_map (λ w. 32 ∷ hex_text w) (take l.w-index l.words)
