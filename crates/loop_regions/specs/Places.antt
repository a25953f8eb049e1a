-- The instructions of a walk, newest first, each with the edge by which its unit was entered. This project's own.
use Rattle.std.specs.Prelude.{ℕ, ◌+◌, Bool, true, false, List, [], ◌∷◌, ◌++◌, Option, Some, None}
use Rattle.flow_graph.specs.declared.parts.Edge.{Edge}
use Rattle.loop_regions.specs.Walks.{LoopGraph}

-- an instruction's address; none for a slot, and where a walk begins
pub record Place : Type 0 where
  pub at : ℕ
  pub by : Option Edge

-- a unit's own instruction, and that in its slot
abbrev pub unit_places : Bool → ℕ → Option Edge → List Place
unit_places true u by = record { at = u + 4; by = None } ∷ record { at = u; by = by } ∷ []
unit_places false u by = record { at = u; by = by } ∷ []

-- the instructions of a walk from a unit
abbrev pub places : LoopGraph → Option Edge → ℕ → List Edge → List Place
places g by u [] = unit_places (g.is_long u) u by
places g by u (e ∷ es) = unit_places (g.is_long e.to) e.to (Some e) ++ places g by u es

abbrev pub ats : List Place → List ℕ
ats [] = []
ats (x ∷ xs) = x.at ∷ ats xs

-- the address of the oldest place, or another one where there is none
abbrev pub oldest : ℕ → List Place → ℕ
oldest d [] = d
oldest d (x ∷ xs) = oldest x.at xs

abbrev pub IsFull : List Place → Type 0
IsFull [] = ⊥
IsFull (x ∷ xs) = Unit {0}
