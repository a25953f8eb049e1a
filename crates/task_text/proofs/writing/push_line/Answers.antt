use Rattle.task_text.proofs.Joined.{values_joined, on_ok}
use Rattle.task_text.proofs.writing.push_line.Goals as goal

pub returns : goal.returns
returns c = on_ok c.end_line.result c.end_line.ensures (λ e. values_joined c.args.out.now.items _ _ _ _ _ c.args.values.now c.name_of.ensures c.in_ok-extend_from_slice.ensures.items c.in_ok-push_values.ensures e)
