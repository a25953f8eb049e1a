-- When the instructions of a list enter the six stages of the pipeline. The pipeline is this project's own.
use Rattle.std.specs.Prelude.{ℕ, ◌+◌, max, Bool, false, ◌&&◌, nat_eq, List, [], ◌∷◌, Option, Some, None, if◌then◌else◌}
use Rattle.std.specs.List.{list_any}
use Rattle.std.specs.Option.{option_eq}
use Rattle.simple_pipe.specs.declared.executed.Executed.{Executed}

-- the cycles at which an instruction enters fetch, decode, register read, execute, memory and write back, and leaves the last
pub record Times : Type 0 where
  pub fetch : ℕ
  pub decode : ℕ
  pub read : ℕ
  pub execute : ℕ
  pub memory : ℕ
  pub write : ℕ
  pub left : ℕ

-- before the first instruction
abbrev pub no_times : Times
no_times = record { fetch = 0; decode = 0; read = 0; execute = 0; memory = 0; write = 0; left = 0 }

-- whether a name is among the names read
abbrev pub is_among : ℕ → List (Option ℕ) → Bool
is_among name names = list_any (λ other. option_eq nat_eq other (Some name)) names

-- whether the name that an instruction writes is among the names read
abbrev pub is_read : Option ℕ → List (Option ℕ) → Bool
is_read None names = false
is_read (Some name) names = is_among name names

-- whether an instruction reads what an earlier one, a load, writes
abbrev pub uses_load : Executed → Executed → Bool
uses_load e earlier = earlier.is_load && is_read earlier.writes e.reads

-- the cycle at which the instruction before has left the memory stage, if it is a load whose result an instruction reads, else 0
abbrev pub loaded_at : Executed → List Executed → ℕ → ℕ
loaded_at e [] write = 0
loaded_at e (before ∷ older) write = if uses_load e before then write else 0

-- The times of an instruction. `before` are those of the instruction before it; it isn't fetched before the cycle `redirected`,
-- and doesn't execute before the cycle `loaded`. It enters a stage where it has spent its cycles in the last one
-- and the instruction before it has left the stage.
abbrev pub times_after : Executed → Times → ℕ → ℕ → Times
times_after e before redirected loaded =
    let fetch = max before.decode redirected in
    let decode = max (fetch + 1 + e.fetch_excess) before.read in
    let read = max (decode + 1) before.execute in
    let execute = max (max (read + 1) before.memory) loaded in
    let memory = max (execute + 1 + e.execute_excess) before.write in
    let write = max (memory + 1 + e.memory_excess) before.left in
    record { fetch = fetch; decode = decode; read = read; execute = execute; memory = memory; write = write; left = write + 1 }

-- `times_of`: the times of the newest instruction of a list, newest first. `redirect_of`: the cycle before which the
-- instruction after such a list isn't fetched, because the last but one redirects.
unfoldable mutual
  pub times_of : List Executed → Times
  times_of [] = no_times
  times_of (e ∷ older) = times_after e (times_of older) (redirect_of older) (loaded_at e older (times_of older).write)

  pub redirect_of : List Executed → ℕ
  redirect_of [] = 0
  redirect_of (e ∷ []) = 0
  redirect_of (e ∷ r ∷ older) = if r.redirects then (times_of (r ∷ older)).memory else 0
