-- What the sub-tasks of cuts are seen as.
use Rattle.std.specs.Prelude.{map}
use Rattle.subtask_cut.specs.Cuts.{SubTasks}
use Rattle.subtask_cut.specs.declared.cuts.Cuts.TheInside.{Inside}

abbrev pub sub_tasks_of : Inside → SubTasks
sub_tasks_of s = record { firsts = s.firsts.items; scopes = map (λ us. us.items) s.scopes.items }
