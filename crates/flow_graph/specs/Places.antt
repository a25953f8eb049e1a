-- Ways between places, which are numbers among the addresses of code.
use Rattle.std.specs.Prelude.{ℕ, ◌<◌, ◌≤◌, ◌≡◌, ◌⊎◌, Bool, true, false, nat_eq, Option, Some, None, List, [], ◌∷◌, ◌++◌, if◌then◌else◌, Contains, All, length, slice_index_or}
use Rattle.std.specs.List.{IsDistinct}
use Rattle.flow_graph.specs.Reached.{is_any, is_inner}
use Rattle.flow_graph.specs.declared.site.Exits.{Exits}
use Rattle.flow_graph.specs.declared.parts.EdgeKind.{EdgeKind}
use Rattle.flow_graph.specs.declared.parts.EdgeKind.TheVariants.{Next, Taken, Call, Return, Over}

abbrev pub no_exits : Exits
no_exits = record { next = None; taken = None; call = None; over = None }

abbrev pub exit_of : Exits → EdgeKind → Option ℕ
exit_of x Next = x.next
exit_of x Taken = x.taken
exit_of x Call = x.call
exit_of x Return = None
exit_of x Over = x.over

abbrev pub exits_at : List Exits → ℕ → Exits
exits_at net u = slice_index_or net u no_exits

-- every exit is a place
pub record IsNet (net : List Exits) : Type 0 where
  pub inside : (u v : ℕ) (kind : EdgeKind) → exit_of (exits_at net u) kind ≡ Some v → v < length net

-- the edges along which a search goes: it enters functions, or goes over their calls alone
abbrev pub asked_by : Bool → EdgeKind → Bool
asked_by true = is_any
asked_by false = is_inner

abbrev pub listed : Option ℕ → List ℕ
listed None = []
listed (Some v) = v ∷ []

-- the places to which they lead
abbrev pub exits_asked : Exits → Bool → List ℕ
exits_asked x enters =
    listed x.next ++ listed x.taken ++ listed x.over ++ (if enters then listed x.call else [])

-- a place leads to another
pub record Goes (net : List Exits) (enters : Bool) (u v : ℕ) : Type 0 where
  pub kind : EdgeKind
  pub is_asked : asked_by enters kind ≡ true
  pub leads : exit_of (exits_at net u) kind ≡ Some v

-- a way between places from one of some starts, newest first
unfoldable pub IsPath : List Exits → Bool → List ℕ → List ℕ → Type 0
IsPath net enters starts [] = ⊥
IsPath net enters starts (u ∷ []) = Contains starts u
IsPath net enters starts (v ∷ (u ∷ us)) = Goes net enters u v × IsPath net enters starts (u ∷ us)

pub record IsMet (net : List Exits) (enters : Bool) (starts : List ℕ) (u : ℕ) : Type 0 where
  pub us : List ℕ
  pub path : IsPath net enters starts (u ∷ us)

-- the places that are reached from some starts, each once
pub record IsSpread (net : List Exits) (enters : Bool) (starts found : List ℕ) : Type 0 where
  pub met : (u : ℕ) → Contains found u → IsMet net enters starts u
  pub whole : (u : ℕ) → IsMet net enters starts u → Contains found u
  pub within : All (λ u. u < length net) found
  pub distinct : IsDistinct nat_eq found

-- what a search in progress keeps: the places that it has found bear its stamp, those that it owes stand in `work`
pub record IsSearch (net : List Exits) (enters : Bool) (starts stamps : List ℕ) (stamp : ℕ) (found work : List ℕ) : Type 0 where
  pub beside : length stamps ≡ length net
  pub stamped : (u : ℕ) → slice_index_or stamps u 0 ≡ stamp → u < length net → Contains found u
  pub marked : (u : ℕ) → Contains found u → (slice_index_or stamps u 0 ≡ stamp) × (u < length net)
  pub met : (u : ℕ) → Contains found u → IsMet net enters starts u
  pub valid : (u : ℕ) → Contains work u → (u < length net) × IsMet net enters starts u
  pub begun : (u : ℕ) → Contains starts u → Contains found u ⊎ Contains work u
  pub owed : (u v : ℕ) → Contains found u → Goes net enters u v → Contains found v ⊎ Contains work v
  pub distinct : IsDistinct nat_eq found
  pub low : All (λ s. s ≤ stamp) stamps
