-- The first fault of a text among the texts of a set.
use Rattle.std.specs.Prelude.{◌≡◌, ℕ, List, [], ◌∷◌, ◌++◌}

-- some text of the set begins with these bytes
pub record Begins (L : List ℕ → Type 0) (bytes : List ℕ) : Type 0 where
  pub more : List ℕ
  pub whole : L (bytes ++ more)

-- none begins with these bytes and the first of the rest; where nothing is left, these bytes are none
abbrev pub Stops : (List ℕ → Type 0) → List ℕ → List ℕ → Type 0
Stops L before [] = ¬ (L before)
Stops L before (c ∷ rest) = (more : List ℕ) → ¬ (L (before ++ c ∷ more))

-- what stands before the rest begins a text of the first set, and with its first byte none of the second
pub record IsFault (N W : List ℕ → Type 0) (text rest : List ℕ) : Type 0 where
  pub before : List ℕ
  pub parts : text ≡ before ++ rest
  pub begins : Begins N before
  pub stops : Stops W before rest

-- one text, and it with more behind it
abbrev pub IsWord : List ℕ → List ℕ → Type 0
IsWord word text = text ≡ word

pub record OpensWord (word text : List ℕ) : Type 0 where
  pub rest : List ℕ
  pub is : text ≡ word ++ rest
