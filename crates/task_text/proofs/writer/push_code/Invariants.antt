use Rattle.std.proofs.Common.{◌≡◌, ◌++◌, drop}
use Rattle.std.specs.List.{flat_map}
use Rattle.task_text.specs.Writing.{row_text, code_rows}
use Rattle.task_text.proofs.writer.push_code.Given as goal

abbrev pub invariant-loop-s : goal.invariant-loop-s
invariant-loop-s l = l.out.items ++ flat_map row_text (code_rows (drop l.s-index l.s-items) l.rest) ≡ l.initial.out.items ++ flat_map row_text (code_rows l.code.spans l.code.words)
