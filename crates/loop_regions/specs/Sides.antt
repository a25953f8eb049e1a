-- The first entry of a region aside from its header.
use Rattle.std.specs.Prelude.{ℕ, ◌≡◌, ◌≤◌, Bool, true, false, List, Contains, ◌&&◌, ◌||◌, ◌==◌, nat_lt, nat_le, if◌then◌else◌, Option, Some, None}
use Rattle.visa_io.specs.declared.records.Region.{Region}
use Rattle.flow_graph.specs.Flow.{Flow}
use Rattle.flow_graph.specs.declared.parts.Edge.{Edge}
use Rattle.loop_regions.specs.Regions.{IsSide, IsNoLaterPair, is_aside, begins_aside, outside}
use Rattle.loop_regions.specs.declared.crossing.Side.{Side}

-- there is none, or this is the first
abbrev pub IsFirstSide : Flow → Region → Option Side → Type 0
IsFirstSide g r None = (from to : ℕ) → IsSide g r from to → ⊥
IsFirstSide g r (Some s) = IsSide g r s.from s.to × ((from to : ℕ) → IsSide g r from to → IsNoLaterPair s.from s.to from to)

-- no edge enters aside, or this is where the first of them does
abbrev pub IsFirstEdge : List Edge → Region → Option Side → Type 0
IsFirstEdge edges r None = (e : Edge) → Contains edges e → is_aside r e ≡ false
IsFirstEdge edges r (Some s) =
    ((e : Edge) × Contains edges e × (is_aside r e ≡ true) × (e.from ≡ s.from) × (e.to ≡ s.to))
    × ((e : Edge) → Contains edges e → is_aside r e ≡ true → IsNoLaterPair s.from s.to e.from e.to)

-- no function begins aside, or this is the first that does
abbrev pub IsFirstFunction : List ℕ → Region → Option ℕ → Type 0
IsFirstFunction functions r None = (f : ℕ) → Contains functions f → begins_aside r f ≡ false
IsFirstFunction functions r (Some f) = Contains functions f × (begins_aside r f ≡ true) × ((h : ℕ) → Contains functions h → begins_aside r h ≡ true → f ≤ h)

-- whether a pair comes no later than another
abbrev pub is_no_later_pair : ℕ → ℕ → ℕ → ℕ → Bool
is_no_later_pair from to a b = nat_lt from a || ((from == a) && nat_le to b)

-- the first of two entries
abbrev pub earlier_of : Option Side → Option ℕ → Option Side
earlier_of edge None = edge
earlier_of None (Some to) = Some (record { from = outside; to = to })
earlier_of (Some s) (Some to) = Some (if is_no_later_pair s.from s.to outside to then s else record { from = outside; to = to })
