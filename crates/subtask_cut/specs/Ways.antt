-- Ways along chosen edges of a graph. This project's own.
use Rattle.std.specs.Prelude.{◌≡◌, ◌≢◌, ℕ, Bool, true, false, List, [], ◌∷◌, Option, Some, ◌==◌, if◌then◌else◌}
use Rattle.std.specs.List.{Contains}
use Rattle.flow_graph.specs.Flow.{Flow}
use Rattle.flow_graph.specs.declared.parts.Edge.{Edge}
use Rattle.flow_graph.specs.declared.parts.EdgeKind.{EdgeKind}
use Rattle.flow_graph.specs.declared.parts.EdgeKind.TheVariants.{Next, Taken, Call, Return, Over}

-- the edges along which control goes on in a sub-task: into what it calls and over it, but not by a return
abbrev pub is_onward : EdgeKind → Bool
is_onward Next = true
is_onward Taken = true
is_onward Call = true
is_onward Over = true
is_onward Return = false

-- one unit leads to another along an edge of a kind that is asked for
pub record Joins (edges : List Edge) (asked : EdgeKind → Bool) (from to : ℕ) : Type 0 where
  pub edge : Edge
  pub among : Contains edges edge
  pub is_asked : asked edge.kind ≡ true
  pub from_is : edge.from ≡ from
  pub to_is : edge.to ≡ to

-- a way along such edges that doesn't come to a unit that is to be avoided: its units, newest first
abbrev pub IsWay : List Edge → (EdgeKind → Bool) → Option ℕ → ℕ → List ℕ → Type 0
IsWay edges asked avoid start [] = ⊥
IsWay edges asked avoid start (u ∷ []) = (u ≡ start) × (avoid ≢ Some u)
IsWay edges asked avoid start (v ∷ u ∷ us) = Joins edges asked u v × (avoid ≢ Some v) × IsWay edges asked avoid start (u ∷ us)

-- a unit is reached by such a way
pub record IsReached (edges : List Edge) (asked : EdgeKind → Bool) (avoid : Option ℕ) (start u : ℕ) : Type 0 where
  pub us : List ℕ
  pub way : IsWay edges asked avoid start (u ∷ us)

-- the units of a function, among functions and their units
abbrev pub units_among : List ℕ → List (List ℕ) → ℕ → List ℕ
units_among [] uss f = []
units_among (h ∷ hs) [] f = []
units_among (h ∷ hs) (us ∷ uss) f = if h == f then us else units_among hs uss f

abbrev pub units_of : Flow → ℕ → List ℕ
units_of g f = units_among g.functions g.function_units f
