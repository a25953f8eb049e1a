-- Walks inside a scope, over the units of a graph. This project's own.
use Rattle.std.specs.Prelude.{◌≡◌, ◌⊎◌, ◌<◌, ℕ, ◌+◌, true, false, List, [], ◌∷◌, Option, None, Some}
use Rattle.std.specs.List.{Contains}
use Rattle.visa_io.specs.declared.records.Shape.{Shape}
use Rattle.flow_graph.specs.declared.parts.Edge.{Edge}
use Rattle.flow_graph.specs.Flow.{Flow}
use Rattle.loop_regions.specs.Walks.{LoopGraph}
use Rattle.cache_lru.specs.Recency.{is_among}
use Rattle.persistence.specs.Charges.{has_slot}

-- the units to which these edges lead lie in a scope
abbrev pub AllLeadInto : List ℕ → List Edge → Type 0
AllLeadInto scope [] = Unit {0}
AllLeadInto scope (e ∷ es) = Contains scope e.to × AllLeadInto scope es

-- edges whose units are those of a graph: an edge goes into the start of a block, or on to the next address from a unit without
-- a slot
pub record FollowsBlocks (g : Flow) (edges : LoopGraph) : Type 0 where
  pub slots : (u : ℕ) → edges.is_long u ≡ has_slot g u
  pub joins : (e : Edge) → Contains edges.edges e → (is_among e.to g.blocks ≡ true) ⊎ ((edges.is_long e.from ≡ false) × (e.to ≡ e.from + 4))

-- a cache has at least one way
abbrev pub HasWays : Option Shape → Type 0
HasWays None = Unit {0}
HasWays (Some shape) = 0 < shape.ways
