use Rattle.std.proofs.Common.{◌∙◌, sym}
use Rattle.task_text.proofs.JobsWalks.{reads_same, walk_ended}
use Rattle.task_text.proofs.jobs_read.read_lines.Goals as goal

pub returns : goal.returns
returns c = reads_same c.args.task.now _ _ (c.ended.ensures ∙ sym (walk_ended c.args.task.now c.loop-line.rest.now c.loop-line.reader c.loop-line.number c.in_default.ensures.none) ∙ c.loop-line.invariant.same)
