-- Texts of at most 48 bytes.
use Rattle.std.specs.Prelude.{ℕ, List, ◌++◌, take}

-- what fits
abbrev pub fitting : List ℕ → List ℕ
fitting bytes = take 48 bytes

-- a text with bytes behind it, as far as they fit
abbrev pub joined : List ℕ → List ℕ → List ℕ
joined text bytes = fitting (text ++ bytes)
