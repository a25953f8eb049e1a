-- The laps that an activation has left in the regions that hold its newest unit. This project's own.
use Rattle.std.specs.Prelude.{ℕ, ◌+◌, ◌-◌, ◌*◌, List, [], ◌∷◌, if◌then◌else◌, ◌==◌}
use Rattle.visa_io.specs.declared.records.Region.{Region}
use Rattle.loop_regions.specs.Walks.{visits, holds}

-- `turn`: what a lap of a region costs. What is paid for all laps but the first at an edge from a to b that enters a region
abbrev pub enters : (Region → ℕ) → Region → ℕ → ℕ → ℕ
enters turn r a b = if holds r a then 0 else (if b == r.header then (r.count - 1) * turn r else 0)

abbrev pub entering : (Region → ℕ) → List Region → ℕ → ℕ → ℕ
entering turn [] a b = 0
entering turn (r ∷ rs) a b = enters turn r a b + entering turn rs a b

-- what an edge back to a header uses up
abbrev pub returns : (Region → ℕ) → Region → ℕ → ℕ → ℕ
returns turn r a b = if holds r a then (if b == r.header then turn r else 0) else 0

abbrev pub returning : (Region → ℕ) → List Region → ℕ → ℕ → ℕ
returning turn [] a b = 0
returning turn (r ∷ rs) a b = returns turn r a b + returning turn rs a b

-- the laps that are left
abbrev pub left_of : (Region → ℕ) → Region → List ℕ → ℕ
left_of turn r [] = 0
left_of turn r (u ∷ us) = if holds r u then (r.count - visits r (u ∷ us)) * turn r else 0

abbrev pub slack : (Region → ℕ) → List Region → List ℕ → ℕ
slack turn [] us = 0
slack turn (r ∷ rs) us = left_of turn r us + slack turn rs us

-- all laps but the first of the regions that begin at a unit
abbrev pub begins : (Region → ℕ) → List Region → ℕ → ℕ
begins turn [] u = 0
begins turn (r ∷ rs) u = (if u == r.header then (r.count - 1) * turn r else 0) + begins turn rs u
