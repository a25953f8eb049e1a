-- The lines of symbols by their addresses.
use Rattle.std.specs.Prelude.{◌≡◌, ℕ, List, filter, map, nat_eq}
use Rattle.std.specs.List.Sorted.{IsNonDecreasingBy}
use Rattle.list_text.specs.Lists.{is_plain, symbol_line, symbol_lines}
use Rattle.list_text.specs.declared.table.SymbolLine.{SymbolLine}

-- addresses and lines
abbrev pub pairs_of : List SymbolLine → List (ℕ × List ℕ)
pairs_of lines = map (λ l. (l.at, l.line.items)) lines

-- the lines of the plain names, in file order
abbrev pub named_lines : List (List ℕ × ℕ) → List (ℕ × List ℕ)
named_lines symbols = map (λ s. (s.1, symbol_line s.0)) (filter (λ s. is_plain s.0) symbols)

-- the lines at an address
abbrev pub lines_at : List SymbolLine → ℕ → List (List ℕ)
lines_at table at = map (λ l. l.line.items) (filter (λ l. nat_eq l.at at) table)

-- a table gives the lines of these symbols, by rising address
pub record IsTableOf (symbols : List (List ℕ × ℕ)) (table : List SymbolLine) : Type 0 where
  pub rising : IsNonDecreasingBy (λ l. l.at) table
  pub same : (at : ℕ) → lines_at table at ≡ symbol_lines symbols at
