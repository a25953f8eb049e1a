-- What is asked of a task, in parts. This project's own.
use Rattle.std.specs.Prelude.{ℕ, List, Option, Some, None, unwrap_or}
use Rattle.std.specs.List.{last_or}
use Rattle.task_text.specs.declared.task.Source.{Source}
use Rattle.task_text.specs.declared.task.Source.TheVariants.{Name, Words}
use Rattle.task_text.specs.declared.task.Task.{Task}

-- the clock period of the last point, ps, which is the shortest; 0 where there is none
abbrev pub fastest_ps : Task → ℕ
fastest_ps t = unwrap_or (last_or None t.points) 0

-- the name of an image file, if the code stands in one
abbrev pub image_name : Source → Option (List ℕ)
image_name (Name n) = Some n
image_name (Words c) = None
