-- The line of a log that is being written, in room that was taken beforehand.
use Rattle.std.specs.Prelude.{ℕ, List}

-- the bytes of the line, and how many there is room for in all
pub record Roomed : Type 0 where
  pub line : List ℕ
  pub room : ℕ
