-- What the instructions of a walk cost: each unit pays the edge by which it is entered. This project's own.
use Rattle.std.specs.Prelude.{ℕ, ◌+◌, Bool, true, false, List, [], ◌∷◌, if◌then◌else◌, Option, Some, None}
use Rattle.flow_graph.specs.declared.parts.Edge.{Edge}
use Rattle.loop_regions.specs.Walks.{LoopGraph}
use Rattle.loop_regions.specs.Places.{Place, oldest}

-- at one operating point: what an instruction costs but for its fetch, what an edge costs, what a miss costs, and the bounds of the sub-tasks
pub record Prices : Type 0 where
  pub base : ℕ → ℕ
  pub edge : Edge → ℕ
  pub miss : ℕ
  pub bound : ℕ → ℕ

abbrev pub entering : Prices → Option Edge → ℕ
entering p None = 0
entering p (Some e) = p.edge e

abbrev pub fetch_cost : Prices → (ℕ → Bool) → ℕ → ℕ
fetch_cost p charged at = if charged at then p.miss else 0

-- the sum of the costs
abbrev pub spent : Prices → (ℕ → Bool) → List Place → ℕ
spent p charged [] = 0
spent p charged (x ∷ xs) = entering p x.by + p.base x.at + fetch_cost p charged x.at + spent p charged xs

-- the sum of the costs, but for the edge before the oldest
abbrev pub young : Prices → (ℕ → Bool) → List Place → ℕ
young p charged [] = 0
young p charged (x ∷ []) = p.base x.at + fetch_cost p charged x.at
young p charged (x ∷ y ∷ ys) = entering p x.by + p.base x.at + fetch_cost p charged x.at + young p charged (y ∷ ys)

-- what a unit costs, with the instruction in its slot
abbrev pub unit_cost : Prices → (ℕ → Bool) → Bool → ℕ → ℕ
unit_cost p charged true u = p.base u + fetch_cost p charged u + (p.base (u + 4) + fetch_cost p charged (u + 4))
unit_cost p charged false u = p.base u + fetch_cost p charged u

-- the cost of a walk from a unit, by its units and edges
abbrev pub walk_cost : Prices → (ℕ → Bool) → LoopGraph → ℕ → List Edge → ℕ
walk_cost p charged g u [] = unit_cost p charged (g.is_long u) u
walk_cost p charged g u (e ∷ es) = p.edge e + unit_cost p charged (g.is_long e.to) e.to + walk_cost p charged g u es

-- how many of these fetches are charged
abbrev pub charges : (ℕ → Bool) → List Place → ℕ
charges charged [] = 0
charges charged (x ∷ xs) = (if charged x.at then 1 else 0) + charges charged xs

-- 1 where a part begins at a fetch that isn't covered
abbrev pub late : (ℕ → Bool) → List Place → ℕ
late covered [] = 0
late covered (x ∷ xs) = if covered (oldest x.at xs) then 0 else 1
