-- What a memory is made of, and which addresses it covers. Source: this project's own.
use Rattle.std.specs.Prelude.{ℕ, ◌+◌, ◌<◌, ◌≤◌, ◌≡◌, Bool, true, false, if◌then◌else◌, nat_le, nat_lt, List, [], ◌∷◌, ◌++◌, length, take, drop, Option, Some, None, Result, Ok, Err, filter, replicate, IsPermutation}
use Rattle.std.specs.List.Sorted.{IsNonDecreasingBy}
use Rattle.visa_io.specs.declared.records.Span.{Span}
use Rattle.mips_ref.specs.Memory.{Flat, LaidOut, Refused, declared_at, greatest_memory, port, storable_at, total_len}
use Rattle.mips_ref.specs.declared.layout.MemoryError.{MemoryError}
use Rattle.mips_ref.specs.declared.layout.MemoryError.TheVariants.{Overlap, TooBig, Memory}

-- no two ranges share an address, and none has one at the port or above
abbrev pub NoneRefused : List Span → Type 0
NoneRefused spans = (a : ℕ) → Refused spans a → ⊥

-- the least address that two ranges share, or that one has at the port or above
pub record LeastRefused (spans : List Span) (a : ℕ) : Type 0 where
  pub refused : Refused spans a
  pub least : (b : ℕ) → b < a → Refused spans b → ⊥

-- a range has an address at all
abbrev pub has_any : Span → Bool
has_any s = nat_lt 0 s.len

-- the given ranges that aren't empty, by rising address
pub record ByAddress (given sorted : List Span) : Type 0 where
  pub same : IsPermutation (filter has_any given) sorted
  pub rising : IsNonDecreasingBy (λ s. s.start) sorted

-- a memory of the given ranges: those that aren't empty, by rising address, with zeros in them
pub record MadeOf (spans : List Span) (big : Bool) (m : Flat) : Type 0 where
  pub none_refused : NoneRefused spans
  pub fits : total_len spans ≤ greatest_memory
  pub laid_out : LaidOut 0 m.spans
  pub same_spans : IsPermutation (filter has_any spans) m.spans
  pub zeros : m.bytes ≡ replicate (total_len spans) 0
  pub order : m.big ≡ big

-- what comes of the ranges: the first fault that they have, or a memory; where memory is wanting, that at any time
abbrev pub Made : List Span → Bool → Result Flat MemoryError → Type 0
Made spans big (Ok m) = MadeOf spans big m
Made spans big (Err (Overlap a)) = LeastRefused spans a
Made spans big (Err TooBig) = NoneRefused spans × (greatest_memory < total_len spans)
Made spans big (Err Memory) = Unit {0}

-- a walk over ranges by rising address, the ones before them ending at an address: the least address that is shared or
-- at the port or above
unfoldable pub first_refused : ℕ → List Span → Option ℕ
first_refused end [] = if nat_lt port end then Some port else None
first_refused end (s ∷ rest) =
    if nat_le port s.start then Some (if nat_lt port end then port else s.start)
    else (if nat_lt s.start end then Some s.start else first_refused (s.start + s.len) rest)

-- an address is declared or, for stores, can be stored to
abbrev pub covered_at : Bool → Flat → ℕ → Bool
covered_at write m a = if write then storable_at m a else declared_at m a

-- each address from one on and below another one is covered
abbrev pub CoveredWithin : Bool → Flat → ℕ → ℕ → Type 0
CoveredWithin write m from to = (b : ℕ) → from ≤ b → b < to → covered_at write m b ≡ true

-- the least address from one on and below another one that isn't covered; None where there is none
abbrev pub Covers : Bool → Flat → ℕ → ℕ → Option ℕ → Type 0
Covers write m from to None = CoveredWithin write m from to
Covers write m from to (Some a) = (from ≤ a) × (a < to) × (covered_at write m a ≡ false) × CoveredWithin write m from a

-- up to where a range covers, from an address on; None where none covers the address
abbrev pub CoveredTo : Bool → Flat → ℕ → Option ℕ → Type 0
CoveredTo write m at None = covered_at write m at ≡ false
CoveredTo write m at (Some end) = (at < end) × CoveredWithin write m at end

-- some bytes from an index on are replaced
abbrev pub overwritten : ℕ → List ℕ → List ℕ → List ℕ
overwritten index run bytes = take index bytes ++ (run ++ drop (index + length run) bytes)
