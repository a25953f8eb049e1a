use Rattle.std.proofs.Common.{sym, ◌∙◌}
use Rattle.task_text.specs.Texts.{add}
use Rattle.task_text.proofs.SeenFacts.{added_kept}
use Rattle.task_text.proofs.reader.Reader.take.Goals as goal

pub returns-in-Ok-clause-keys : goal.returns-in-Ok-clause-keys
returns-in-Ok-clause-keys c =
    added_kept c.note.result c.add.result c.in-Ok.field-0 c.note.new.self c.add.new.self (add c.args.row c.args.self.now.task)
    (sym c.is_err.ensures.value ∙ c.if-is_err.false) c.in-Ok.is (c.note.ensures c.args.self.now.task c.requires.keys) c.add.ensures
