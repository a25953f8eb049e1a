-- The inputs of jobs, each a piece of the bytes of all. This project's own.
use Rattle.std.specs.Prelude.{ℕ, List, length, take, drop, ◌+◌, ◌<◌, ◌≤◌, All, slice_index_or}
use Rattle.task_text.specs.declared.jobs.Jobs.{Jobs}
use Rattle.task_text.specs.declared.jobs.Piece.{Piece}
use Rattle.task_text.specs.declared.task.Task.{Task}

-- the piece of job k, counted from 0; an empty one past the last job
abbrev pub piece_at : Jobs → ℕ → Piece
piece_at j k = slice_index_or j.inputs k (record { from = 0; len = 0 })

-- its bytes
abbrev pub input_of : Jobs → ℕ → List ℕ
input_of j k = take (piece_at j k).len (drop (piece_at j k).from j.bytes)

-- every piece lies among the bytes
abbrev pub AreInside : Jobs → Type 0
AreInside j = All (λ p. p.from + p.len ≤ length j.bytes) j.inputs

-- the inputs of at most 10000 jobs of the task, each of which fits its buffer
pub record AreInputsOf (t : Task) (j : Jobs) : Type 0 where
  pub few : length j.inputs ≤ 10000
  pub inside : AreInside j
  pub short : All (λ p. p.len ≤ t.input_len) j.inputs
  pub bytes : All (λ b. b < 256) j.bytes
