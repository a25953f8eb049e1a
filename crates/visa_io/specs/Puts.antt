-- What putting pieces into a sink does. A sink may tell the bytes that it took. This project's own.
use Rattle.std.specs.Prelude.{◌≡◌, ℕ, List, ◌∷◌, ◌++◌, length, Option, Some, None, Result, Ok, Err, ⊤}
use Rattle.std.specs.List.{concat}
use Rattle.visa_io.specs.Faults.{risen, risen_by}

-- what a call sees of a sink: the bytes taken so far, where they are told, and how many faults and puts there were
pub record Taken : Type 0 where
  pub bytes : Option (List ℕ)
  pub faults : ℕ
  pub puts : ℕ

-- a sink with these counts that doesn't tell its bytes
abbrev pub untold : ℕ → ℕ → Taken
untold faults puts = record { bytes = None; faults = faults; puts = puts }

-- the bytes taken after a text, where they are told
abbrev pub appended : Option (List ℕ) → List ℕ → Option (List ℕ)
appended None text = None
appended (Some bytes) text = Some (bytes ++ text)

-- some prefix of the text was appended
pub record AppendsPrefix (old new : Option (List ℕ)) (text : List ℕ) : Type 0 where
  pub kept : List ℕ
  pub lost : List ℕ
  pub parts : text ≡ kept ++ lost
  pub taken : new ≡ appended old kept

-- a piece was put: it was appended, and no fault was counted
pub record Put (old new : Taken) (piece : List ℕ) : Type 0 where
  pub appends : new.bytes ≡ appended old.bytes piece
  pub no_fault : new.faults ≡ old.faults
  pub counted : new.puts ≡ risen old.puts

-- a put failed: a prefix of its piece was appended, and its fault was counted
pub record PutFailed (old new : Taken) (piece : List ℕ) : Type 0 where
  pub part : AppendsPrefix old.bytes new.bytes piece
  pub fault : new.faults ≡ risen old.faults
  pub counted : new.puts ≡ risen old.puts

-- pieces were put one after the other, each by one put
pub record PutAll (old new : Taken) (pieces : List (List ℕ)) : Type 0 where
  pub appends : new.bytes ≡ appended old.bytes (concat pieces)
  pub no_fault : new.faults ≡ old.faults
  pub counted : new.puts ≡ risen_by (length pieces) old.puts

-- pieces were put one after the other, until the put of one of them failed
pub record PutSome (old new : Taken) (pieces : List (List ℕ)) : Type 0 where
  pub before : List (List ℕ)
  pub kept : List ℕ
  pub lost : List ℕ
  pub behind : List (List ℕ)
  pub parts : pieces ≡ before ++ (kept ++ lost) ∷ behind
  pub appends : new.bytes ≡ appended old.bytes (concat before ++ kept)
  pub fault : new.faults ≡ risen old.faults
  pub counted : new.puts ≡ risen (risen_by (length before) old.puts)

-- all pieces were put, or the put of one of them failed
abbrev pub Puts : {E : Type 0} → Taken → Taken → List (List ℕ) → Result ⊤ E → Type 0
Puts old new pieces (Ok done) = PutAll old new pieces
Puts old new pieces (Err failed) = PutSome old new pieces
