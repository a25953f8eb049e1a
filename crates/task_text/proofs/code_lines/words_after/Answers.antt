use Rattle.task_text.proofs.Fields.{words_small}
use Rattle.task_text.proofs.code_lines.words_after.Goals as goal

pub words_value-requires-clause-words : goal.words_value-requires-clause-words
words_value-requires-clause-words c = words_small _ c.in-Ok.words c.in-Ok.ensures
