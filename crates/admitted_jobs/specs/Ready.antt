-- A memory on which a job of a task can be released. This project's own.
use Rattle.std.specs.Prelude.{◌<◌, ◌^◌, All}
use Rattle.visa_io.specs.declared.records.Code.{Code}
use Rattle.task_text.specs.declared.task.Task.{Task}
use Rattle.mips_ref.specs.Memory.{AllStorable, Flat}
use Rattle.run_law.specs.Runs.{HasCode}
use Rattle.task_layout.specs.Layout.{IsDeclared}

-- the code stands in it, the input goes into a buffer that can be stored to, and what a log shows is declared
pub record IsReady (t : Task) (code : Code) (m : Flat) : Type 0 where
  pub has_code : HasCode code m
  pub input_at : t.input_at < 2 ^ 32
  pub input : AllStorable m t.input_at t.input_len
  pub shows : All (IsDeclared m) t.show
