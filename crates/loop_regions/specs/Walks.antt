-- Walks over a graph: lists of edges, newest first, with the activations that are open; and which walks are legal under the
-- counts of loop regions. This project's own.
use Rattle.std.specs.Prelude.{◌≡◌, ◌⊎◌, ◌≤◌, ◌<◌, ℕ, ◌+◌, Bool, ◌&&◌, nat_le, ◌==◌, List, [], ◌∷◌, length, get_or, if◌then◌else◌}
use Rattle.std.specs.List.{Contains}
use Rattle.visa_io.specs.declared.records.Region.{Region}
use Rattle.flow_graph.specs.declared.parts.Edge.{Edge}
use Rattle.flow_graph.specs.declared.parts.EdgeKind.{EdgeKind}
use Rattle.flow_graph.specs.declared.parts.EdgeKind.TheVariants.{Next, Taken, Call, Return, Over}

-- a graph with its loop regions: all edges, all regions, and which units have a delay slot
pub record LoopGraph : Type 0 where
  pub edges : List Edge
  pub regions : List Region
  pub is_long : ℕ → Bool

-- a region holds the units from its first address to its last
abbrev pub holds : Region → ℕ → Bool
holds r u = nat_le r.first u && nat_le u r.last

-- how often the newest stay in a region has met its header; the units of one activation, newest first
abbrev pub visits : Region → List ℕ → ℕ
visits r [] = 0
visits r (u ∷ us) = if holds r u then (if u == r.header then 1 else 0) + visits r us else 0

-- the open activations after an edge of a kind to a unit: the top one first, each the list of its units, newest first
abbrev pub follow : EdgeKind → ℕ → List (List ℕ) → List (List ℕ)
follow Call to s = (to ∷ []) ∷ s
follow Return to [] = []
follow Return to (us ∷ []) = us ∷ []
follow Return to (us ∷ vs ∷ s) = (to ∷ vs) ∷ s
follow Next to [] = []
follow Next to (us ∷ s) = (to ∷ us) ∷ s
follow Taken to [] = []
follow Taken to (us ∷ s) = (to ∷ us) ∷ s
follow Over to s = s

-- the open activations after a list of edges, newest first
abbrev pub open_from : List (List ℕ) → List Edge → List (List ℕ)
open_from s [] = s
open_from s (e ∷ es) = follow e.kind e.to (open_from s es)

abbrev pub IsNewest : ℕ → List ℕ → Type 0
IsNewest u [] = ⊥
IsNewest u (v ∷ vs) = v ≡ u

-- a return goes behind the call and its slot
abbrev pub IsReturnPoint : ℕ → List ℕ → Type 0
IsReturnPoint to [] = ⊥
IsReturnPoint to (call ∷ vs) = to ≡ call + 8

-- an edge of this kind can follow. An Over edge never does: a walk goes through the function that is called
abbrev pub Comes : EdgeKind → ℕ → ℕ → List (List ℕ) → Type 0
Comes Return from to [] = ⊥
Comes Return from to (us ∷ []) = ⊥
Comes Return from to (us ∷ vs ∷ s) = IsNewest from us × IsReturnPoint to vs
Comes Next from to [] = ⊥
Comes Next from to (us ∷ s) = IsNewest from us
Comes Taken from to [] = ⊥
Comes Taken from to (us ∷ s) = IsNewest from us
Comes Call from to [] = ⊥
Comes Call from to (us ∷ s) = IsNewest from us
Comes Over from to s = ⊥

-- the activation on top keeps the counts: no stay in a region has met its header more often
abbrev pub IsLegal : List Region → List (List ℕ) → Type 0
IsLegal rs [] = ⊥
IsLegal rs (us ∷ s) = (r : Region) → Contains rs r → visits r us ≤ r.count

-- a list of edges, newest first, is a legal walk that goes on from these activations
abbrev pub IsWalk : LoopGraph → List (List ℕ) → List Edge → Type 0
IsWalk g s [] = Unit {0}
IsWalk g s (e ∷ es) = IsWalk g s es × Contains g.edges e × Comes e.kind e.from e.to (open_from s es) × IsLegal g.regions (open_from s (e ∷ es))

-- one activation, of one unit: where the walk of a job begins
abbrev pub alone : ℕ → List (List ℕ)
alone u = (u ∷ []) ∷ []

-- a number is among these
abbrev pub Has : ℕ → List ℕ → Type 0
Has u [] = ⊥
Has u (v ∷ vs) = (v ≡ u) ⊎ Has u vs

-- a unit is met on these edges
abbrev pub Meets : ℕ → List Edge → Type 0
Meets u [] = ⊥
Meets u (e ∷ es) = (e.to ≡ u) ⊎ Meets u es

-- the entry and the cuts in order: the first unit of the k-th sub-task, counted from 0
abbrev pub IsFirst : List ℕ → ℕ → ℕ → Type 0
IsFirst firsts k u = (k < length firsts) × (get_or firsts k 0 ≡ u)
