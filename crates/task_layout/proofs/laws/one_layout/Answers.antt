use Rattle.task_layout.proofs.Layouts.{layout_excludes, one_layout, one_refusal}
use Rattle.task_layout.proofs.laws.one_layout.Goals as goal

pub returns-clause-memories : goal.returns-clause-memories
returns-clause-memories c = one_layout

pub returns-clause-refusals : goal.returns-clause-refusals
returns-clause-refusals c = one_refusal

pub returns-clause-apart : goal.returns-clause-apart
returns-clause-apart c = layout_excludes
