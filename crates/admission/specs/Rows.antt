-- Rows of numbers. This project's own.
use Rattle.std.specs.Global.{Global}
use Rattle.std.specs.Prelude.{ℕ, List, [], Vec, map, slice_index_or}

abbrev pub rows_of : List (Vec ℕ Global) → List (List ℕ)
rows_of rows = map (λ row. row.items) rows

-- the row of a point
abbrev pub row_at : List (List ℕ) → ℕ → List ℕ
row_at rows point = slice_index_or rows point []
