use Rattle.std.proofs.Common.{◌≡◌, true, map, take}
use Rattle.std.specs.List.{list_all}
use Rattle.text_fields.specs.Numbers.{hex, is_hex}
use Rattle.task_text.proofs.code_lines.words_of.Given as goal

abbrev pub invariant-loop-f : goal.invariant-loop-f
invariant-loop-f l = record {
  words : l.words ≡ map hex (map (λ x. x.now) (take l.f-index l.fields));
  all : list_all (λ f. is_hex f.now) (take l.f-index l.fields) ≡ true;
}
