-- Chains of calls between places.
use Rattle.std.specs.Prelude.{ℕ, zero, suc, ◌<◌, ◌≤◌, ◌≡◌, Bool, true, false, nat_eq, if◌then◌else◌, Option, Some, None, List, [], ◌∷◌, ◌++◌, All, Contains, length, slice_index}
use Rattle.flow_graph.specs.Places.{IsMet, exits_at, listed}
use Rattle.flow_graph.specs.declared.site.Exits.{Exits}

-- a function calls another
pub record CallsOn (net : List Exits) (caller function : ℕ) : Type 0 where
  pub unit : ℕ
  pub met : IsMet net false (caller ∷ []) unit
  pub call : (exits_at net unit).call ≡ Some function

-- a chain of so many calls leads to a function
unfoldable pub ChainAt : List Exits → ℕ → ℕ → ℕ → Type 0
ChainAt net entry zero f = f ≡ entry
ChainAt net entry (suc n) f = (g : ℕ) × ChainAt net entry n g × CallsOn net g f

abbrev pub IsDeep : List Exits → ℕ → Bool → Type 0
IsDeep net entry true = (f : ℕ) × ChainAt net entry 64 f
IsDeep net entry false = (f : ℕ) → ChainAt net entry 64 f → ⊥

-- the functions that the first of some units call
unfoldable pub called_upto : List Exits → List ℕ → ℕ → List ℕ
called_upto net places zero = []
called_upto net places (suc n) = called_upto net places n ++ listed (exits_at net (slice_index places n)).call

-- the functions at which a level of calls begins
pub record IsLevel (net : List Exits) (entry level : ℕ) (stamps starts : List ℕ) : Type 0 where
  pub beside : length stamps ≡ length net
  pub within : All (λ s. s < length net) starts
  pub low : All (λ s. s ≤ level) stamps
  pub chain : (f : ℕ) → Contains starts f → ChainAt net entry level f
  pub whole : (f : ℕ) → ChainAt net entry level f → Contains starts f

-- the least of some numbers, if there is one
abbrev pub IsLeast : (ℕ → Type 0) → Option ℕ → Type 0
IsLeast P None = (a : ℕ) → P a → ⊥
IsLeast P (Some a) = P a × ((b : ℕ) → P b → a ≤ b)

-- a call of a function is among the first of some units
abbrev pub CallsAmong : List Exits → ℕ → List ℕ → ℕ → ℕ → Type 0
CallsAmong net function found n u = (k : ℕ) × (k < n) × (slice_index found k ≡ u) × ((exits_at net u).call ≡ Some function)

-- a call is reached again from what it calls, one of the first of some functions
abbrev pub IsAgain : List Exits → List ℕ → ℕ → ℕ → Type 0
IsAgain net functions n u = (k : ℕ) × (k < n) × IsMet net true (slice_index functions k ∷ []) u × ((exits_at net u).call ≡ Some (slice_index functions k))

abbrev pub is_call_of : ℕ → Option ℕ → Bool
is_call_of function None = false
is_call_of function (Some f) = nat_eq f function

abbrev pub caller_of : List Exits → ℕ → ℕ → Option ℕ
caller_of net function place = if is_call_of function (exits_at net place).call then Some place else None
