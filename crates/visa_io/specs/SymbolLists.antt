-- Symbols as the list of their names and values, in file order.
use Rattle.std.specs.Prelude.{ℕ, Bool, List, map, is_some, bytes_eq, Option, Vec}
use Rattle.std.specs.Map.{lookup}
use Rattle.std.specs.declared.alloc.Global.{Global}

-- the pairs of name and value
abbrev pub pairs_of : List (Vec ℕ Global × ℕ) → List (List ℕ × ℕ)
pairs_of entries = map (λ entry. (entry.0.items, entry.1)) entries

-- the value of a name
abbrev pub value_of : List (List ℕ × ℕ) → List ℕ → Option ℕ
value_of pairs name = lookup (bytes_eq name) pairs

-- some symbol has this name
abbrev pub names : List (List ℕ × ℕ) → List ℕ → Bool
names pairs name = is_some (value_of pairs name)
