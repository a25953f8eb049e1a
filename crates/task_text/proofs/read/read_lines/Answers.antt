use Rattle.std.proofs.Common.{◌∙◌, sym}
use Rattle.task_text.proofs.Tracked.{reads_same, walk_ended}
use Rattle.task_text.proofs.read.read_lines.Goals as goal

pub returns : goal.returns
returns c = reads_same _ _ (c.ended.ensures ∙ sym (walk_ended c.loop-line.rest.now c.loop-line.reader c.loop-line.number c.in_default.ensures.none) ∙ c.loop-line.invariant.same)
