-- The bounds of an admitted task at its points, and the law on every suffix. This project's own.
use Rattle.std.specs.Prelude.{◌≡◌, ◌≤◌, ◌<◌, ℕ, ◌+◌, ◌*◌, min, List, [], ◌∷◌, length, drop}
use Rattle.flow_graph.specs.declared.parts.Edge.{Edge}
use Rattle.loop_regions.specs.Places.{Place, oldest}
use Rattle.loop_regions.specs.Costs.{Prices, walk_cost}
use Rattle.remaining_wcet.specs.Executed.{Executed, Clock, total_cost}
use Rattle.remaining_wcet.specs.SubTasks.{SubTasks, Closed, IsPiece, Exits, IsInside, pcs_to, first_of_sub}

-- where it is below the cap, no walk of the sub-task costs more, the edge into the next cut
-- counted
pub record IsMost (t : SubTasks) (p : Prices) (cap k value : ℕ) : Type 0 where
  pub inside : value < cap → (es : List Edge) → IsPiece t k es
      → walk_cost p (t.charged k) t.flow (first_of_sub t k) es ≤ value
  pub into : value < cap → (c : Closed) → IsPiece t k c.edges → Exits t k c
      → p.edge c.exit + walk_cost p (t.charged k) t.flow (first_of_sub t k) c.edges ≤ value

-- the bound of a sub-task
pub record IsBound (t : SubTasks) (p : Prices) (cap k : ℕ) : Type 0 where
  pub value : ℕ
  pub most : IsMost t p cap k value
  pub is : p.bound k ≡ min cap (value + p.miss * t.lines k)

-- at a slower point nothing costs more cycles
pub record IsSlower (slow fast : Prices) : Type 0 where
  pub base : (a : ℕ) → slow.base a ≤ fast.base a
  pub edge : (e : Edge) → slow.edge e ≤ fast.edge e
  pub miss : slow.miss ≤ fast.miss

abbrev pub sum_of : List ℕ → ℕ
sum_of [] = 0
sum_of (n ∷ ns) = n + sum_of ns

-- a suffix costs at most its sub-tasks' bounds and one miss, and no miss where it begins at the first unit of its
-- sub-task
pub record IsInTime (t : SubTasks) (p : Prices) (c : Clock) (bounds : List ℕ) (os : List Executed) (rest before : List Place) : Type 0 where
  pub sub : ℕ
  pub is_sub : sub < length t.firsts
  pub inside : IsInside t sub (pcs_to rest before)
  pub cost : total_cost c p os ≤ p.miss + sum_of (drop sub bounds)
  pub at_first : oldest 0 rest ≡ first_of_sub t sub → total_cost c p os ≤ sum_of (drop sub bounds)
