use Rattle.std.proofs.Common.{sym, subst}
use Rattle.std.specs.Str.{IsUtf8}
use Rattle.task_text.proofs.TaskParts.{image_utf8}
use Rattle.task_text.proofs.task.Task.image_name.Goals as goal

pub text_of-requires : goal.text_of-requires
text_of-requires c = subst IsUtf8 (sym c.as_slice.ensures) (image_utf8 c.args.self.now.image c.in-Name.name c.requires.image c.in-Name.is)
