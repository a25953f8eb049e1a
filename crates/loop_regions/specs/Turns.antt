-- Ways inside a function, and the region that a cycle belongs to. This project's own.
use Rattle.std.specs.Prelude.{◌≡◌, ℕ, true, List, [], ◌∷◌}
use Rattle.std.specs.List.{Contains}
use Rattle.visa_io.specs.declared.records.Region.{Region}
use Rattle.flow_graph.specs.Flow.{Flow}
use Rattle.flow_graph.specs.declared.parts.Edge.{Edge}
use Rattle.loop_regions.specs.Regions.{IsInner}
use Rattle.loop_regions.specs.Walks.{Has, holds}

-- an edge inside a function leads from a unit to another
abbrev pub LeadsInside : Flow → ℕ → ℕ → Type 0
LeadsInside g from to = (e : Edge) × IsInner g e × (e.from ≡ from) × (e.to ≡ to)

-- a way along such edges from one unit to another: the units that it leaves, newest first
abbrev pub IsInnerWay : Flow → ℕ → List ℕ → ℕ → Type 0
IsInnerWay g start [] end = start ≡ end
IsInnerWay g start (u ∷ us) end = LeadsInside g u end × IsInnerWay g start us u

-- a region holds all these units, and its header is one of them
pub record HasRegion (rs : List Region) (us : List ℕ) : Type 0 where
  pub region : Region
  pub among : Contains rs region
  pub all : (u : ℕ) → Has u us → holds region u ≡ true
  pub header : Has region.header us
