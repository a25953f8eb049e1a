-- What lists of edges cost, and what regions keep of an edge. This project's own.
use Rattle.std.specs.Prelude.{ℕ, ◌+◌, ◌≡◌, true, false, List, [], ◌∷◌, Contains}
use Rattle.visa_io.specs.declared.records.Region.{Region}
use Rattle.flow_graph.specs.declared.parts.Edge.{Edge}
use Rattle.flow_graph.specs.declared.parts.EdgeKind.{EdgeKind}
use Rattle.flow_graph.specs.declared.parts.EdgeKind.TheVariants.{Next, Taken, Call, Return, Over}
use Rattle.loop_regions.specs.Walks.{holds}

-- beyond this sum nothing is claimed
abbrev pub cap : ℕ
cap = 1000000000000000000

abbrev pub IsPlain : EdgeKind → Type 0
IsPlain Next = Unit {0}
IsPlain Taken = Unit {0}
IsPlain Call = ⊥
IsPlain Return = ⊥
IsPlain Over = ⊥

-- the cost of a list of edges, each with the unit that it enters
abbrev pub cost : (Edge → ℕ) → List Edge → ℕ
cost price [] = 0
cost price (e ∷ es) = price e + cost price es

-- what the regions keep of an edge inside a function: no two have one header, each holds its own, and is entered there
pub record AreEntered (rs : List Region) (e : Edge) : Type 0 where
  pub header : (r : Region) → Contains rs r → holds r r.header ≡ true
  pub unique : (r x : Region) → Contains rs r → Contains rs x → r.header ≡ x.header → r ≡ x
  pub enters : (r : Region) → Contains rs r → holds r e.to ≡ true → holds r e.from ≡ false → e.to ≡ r.header
