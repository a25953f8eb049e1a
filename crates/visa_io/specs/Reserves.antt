-- A list with room that was taken beforehand.
use Rattle.std.specs.Prelude.{ℕ, List}

-- the items, and how many there is room for in all
pub record Reserved (T : Type 0) : Type 0 where
  pub items : List T
  pub room : ℕ
