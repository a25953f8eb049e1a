-- Lists of edges, as the code makes them.
use Rattle.std.specs.Prelude.{ℕ, zero, suc, ◌<◌, ◌≤◌, ◌≡◌, ◌⊎◌, Option, Some, None, List, [], ◌∷◌, ◌++◌, AllPairs, Contains, length, slice_index, slice_index_or}
use Rattle.flow_graph.specs.Edges.{edge_of}
use Rattle.flow_graph.specs.Flow.{ComesBefore}
use Rattle.flow_graph.specs.FunctionParts.{no_place, part_of}
use Rattle.flow_graph.specs.Held.{IsWithin}
use Rattle.flow_graph.specs.Places.{exits_at}
use Rattle.flow_graph.specs.declared.parts.Edge.{Edge}
use Rattle.flow_graph.specs.declared.parts.EdgeKind.{EdgeKind}
use Rattle.flow_graph.specs.declared.parts.EdgeKind.TheVariants.{Next, Taken, Call, Return, Over}
use Rattle.flow_graph.specs.declared.function_parts.Parts.{Parts}
use Rattle.flow_graph.specs.declared.places.Places.{Places}
use Rattle.flow_graph.specs.declared.site.Exits.{Exits}

-- the same edges in order, each once
pub record AreOrdered (old new : List Edge) : Type 0 where
  pub rise : AllPairs ComesBefore new
  pub kept : (e : Edge) → Contains old e → Contains new e
  pub only : (e : Edge) → Contains new e → Contains old e

-- an exit is one of so many places
abbrev pub IsInside : Option ℕ → ℕ → Type 0
IsInside None count = Unit {0}
IsInside (Some v) count = v < count

pub record AreInsideAt (x : Exits) (count : ℕ) : Type 0 where
  pub next : IsInside x.next count
  pub taken : IsInside x.taken count
  pub call : IsInside x.call count
  pub over : IsInside x.over count

abbrev pub AreInside : List Exits → ℕ → Type 0
AreInside net count = (u : ℕ) → AreInsideAt (exits_at net u) count

-- the edge to an exit
abbrev pub exit_edge : List ℕ → ℕ → EdgeKind → Option ℕ → List Edge
exit_edge addresses from kind None = []
exit_edge addresses from kind (Some v) = edge_of from (slice_index addresses v) kind ∷ []

abbrev pub exit_edges : List ℕ → ℕ → Exits → List Edge
exit_edges addresses from x =
    exit_edge addresses from Next x.next ++ exit_edge addresses from Taken x.taken ++ exit_edge addresses from Call x.call ++ exit_edge addresses from Over x.over

-- the edges along which the first of some units lead on
unfoldable pub own_upto : List ℕ → List Exits → List ℕ → ℕ → List Edge
own_upto addresses net places zero = []
own_upto addresses net places (suc n) =
    own_upto addresses net places n ++ exit_edges addresses (slice_index addresses (slice_index places n)) (exits_at net (slice_index places n))

abbrev pub return_edge : ℕ → ℕ → Edge
return_edge to from = edge_of from to Return

-- there are so many parts
pub record HaveParts (parts : Parts) (count : ℕ) : Type 0 where
  pub enough : count ≤ length parts.places.items
  pub within : (k : ℕ) → k < count → IsWithin (length parts.addresses.items) (slice_index_or parts.places.items k no_place)

-- edges of some kind are added to a list
pub record More (old : List Edge) (P : Edge → Type 0) (new : List Edge) : Type 0 where
  pub kept : (e : Edge) → Contains old e → Contains new e
  pub whole : (e : Edge) → P e → Contains new e
  pub only : (e : Edge) → Contains new e → Contains old e ⊎ P e

-- the returns of a function
pub record AreReturnsOf (functions : List ℕ) (returns : Parts) (function : ℕ) (own : List ℕ) : Type 0 where
  pub whole : (k r : ℕ) → k < length functions → slice_index functions k ≡ function → Contains (part_of returns k) r → Contains own r
  pub only : (r : ℕ) → Contains own r → (k : ℕ) × (k < length functions) × (slice_index functions k ≡ function) × Contains (part_of returns k) r

-- an edge from a return of a function to a return point
pub record IsPointBy (places : Places) (functions : List ℕ) (returns : Parts) (function : ℕ) (over : Option ℕ) (e : Edge) : Type 0 where
  pub point : ℕ
  pub k : ℕ
  pub from : ℕ
  pub is_point : over ≡ Some point
  pub below : k < length functions
  pub at : slice_index functions k ≡ function
  pub among : Contains (part_of returns k) from
  pub is : e ≡ return_edge (slice_index places.addresses.items point) from

abbrev pub IsPointIf : Places → List ℕ → Parts → Option ℕ → Option ℕ → Edge → Type 0
IsPointIf places functions returns call over e = (function : ℕ) × (call ≡ Some function) × IsPointBy places functions returns function over e

-- to the return point of the call at a place
abbrev pub IsPointOf : Places → List ℕ → Parts → ℕ → Edge → Type 0
IsPointOf places functions returns place e =
    IsPointIf places functions returns (exits_at places.net.items place).call (exits_at places.net.items place).over e

-- or at one of the first of some places
abbrev pub IsPointAmong : Places → List ℕ → Parts → List ℕ → ℕ → Edge → Type 0
IsPointAmong places functions returns reached n e = (j : ℕ) × (j < n) × IsPointOf places functions returns (slice_index reached j) e
