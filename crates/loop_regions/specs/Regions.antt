-- When loop regions nest in a graph, and what is wrong where they don't. This project's own.
use Rattle.std.specs.Prelude.{ℕ, ◌+◌, ◌<◌, ◌≤◌, ◌≡◌, ◌≢◌, ◌⊎◌, Bool, true, false, ◌&&◌, ◌||◌, not, ◌==◌, nat_le, Some, List, [], ◌∷◌, Contains, slice_get, take, Option, None}
use Rattle.std.specs.List.{list_any}
use Rattle.visa_io.specs.declared.records.Region.{Region}
use Rattle.flow_graph.specs.Flow.{Flow}
use Rattle.flow_graph.specs.Reached.{is_inner}
use Rattle.flow_graph.specs.declared.parts.Edge.{Edge}
use Rattle.flow_graph.specs.declared.parts.Unit.{Unit as FlowUnit}
use Rattle.loop_regions.specs.Walks.{holds}
use Rattle.loop_regions.specs.declared.fault.RegionFault.{RegionFault}
use Rattle.loop_regions.specs.declared.fault.RegionFault.TheVariants.{Crossing, SideEntry, FreeCycle, Memory}

abbrev pub option_any : {X : Type 0} → (X → Bool) → Option X → Bool
option_any test None = false
option_any test (Some x) = test x

-- all of one region's addresses lie in another
abbrev pub is_within : Region → Region → Bool
is_within r x = nat_le x.first r.first && nat_le r.last x.last

-- two regions share an address
abbrev pub shares : Region → Region → Bool
shares r x = nat_le r.first x.last && nat_le x.first r.last

-- two regions can't stand beside each other: they have one header, or overlap without one holding the other
abbrev pub clashes : Region → Region → Bool
clashes r x = (r.header == x.header) || (shares r x && not (is_within r x || is_within x r))

-- a unit has this address
abbrev pub is_unit : List FlowUnit → ℕ → Bool
is_unit units a = list_any (λ unit. unit.at == a) units

-- a region after earlier ones: its header lies outside it or is no unit, or it clashes with an earlier one
abbrev pub is_crossing : List FlowUnit → List Region → Region → Bool
is_crossing units earlier r = not (holds r r.header && is_unit units r.header) || list_any (clashes r) earlier

-- the region at this place is one
abbrev pub crosses_at : List FlowUnit → List Region → ℕ → Bool
crosses_at units rs k = option_any (λ r. is_crossing units (take k rs) r) (slice_get rs k)

-- an edge inside a function
pub record IsInner (g : Flow) (e : Edge) : Type 0 where
  pub among : Contains g.edges e
  pub inner : is_inner e.kind ≡ true

-- where a function begins, as the place that it is entered from: no unit has this address, and all have lower ones
abbrev pub outside : ℕ
outside = 4294967280

-- control comes to a unit from another: along an edge inside a function, or where a function begins
abbrev pub IsEntered : Flow → Region → ℕ → ℕ → Type 0
IsEntered g r from to = ((e : Edge) × IsInner g e × (e.from ≡ from) × (e.to ≡ to) × (holds r from ≡ false)) ⊎ ((from ≡ outside) × Contains g.functions to)

-- a region is entered elsewhere than at its header
pub record IsSide (g : Flow) (r : Region) (from to : ℕ) : Type 0 where
  pub inside : holds r to ≡ true
  pub aside : to ≢ r.header
  pub comes : IsEntered g r from to

-- an edge back to the header of a region that it lies in
abbrev pub is_back : List Region → Edge → Bool
is_back rs e = list_any (λ r. (e.to == r.header) && holds r e.from) rs

-- the edges inside functions that are left without those back to headers
pub record IsForward (g : Flow) (rs : List Region) (e : Edge) : Type 0 where
  pub inner : IsInner g e
  pub ahead : is_back rs e ≡ false

-- one leads from a unit to another
abbrev pub LeadsOn : Flow → List Region → ℕ → ℕ → Type 0
LeadsOn g rs from to = (e : Edge) × IsForward g rs e × (e.from ≡ from) × (e.to ≡ to)

-- a way along them: its units, newest first
abbrev pub IsFreeWay : Flow → List Region → ℕ → List ℕ → Type 0
IsFreeWay g rs start [] = ⊥
IsFreeWay g rs start (u ∷ []) = u ≡ start
IsFreeWay g rs start (v ∷ u ∷ us) = LeadsOn g rs u v × IsFreeWay g rs start (u ∷ us)

-- a unit is on a cycle of them
pub record IsOnFreeCycle (g : Flow) (rs : List Region) (u : ℕ) : Type 0 where
  pub last : ℕ
  pub before : List ℕ
  pub way : IsFreeWay g rs u (u ∷ last ∷ before)

-- an edge inside a function that enters a region aside from its header
abbrev pub is_aside : Region → Edge → Bool
is_aside r e = is_inner e.kind && (holds r e.to && not (holds r e.from || (e.to == r.header)))

-- a function that begins in a region aside from its header
abbrev pub begins_aside : Region → ℕ → Bool
begins_aside r f = holds r f && not (f == r.header)

-- a pair comes no later than another
abbrev pub IsNoLaterPair : ℕ → ℕ → ℕ → ℕ → Type 0
IsNoLaterPair from to a b = (from < a) ⊎ ((from ≡ a) × (to ≤ b))

-- the region at a place is entered elsewhere than at its header
abbrev pub IsSideAt : Flow → List Region → ℕ → ℕ → ℕ → Type 0
IsSideAt g rs k from to = (r : Region) × (slice_get rs k ≡ Some r) × IsSide g r from to

-- the regions have a fault in the graph. Regions are numbered from 1, and their places from 0
abbrev pub Has : Flow → List Region → RegionFault → Type 0
Has g rs (Crossing n) = (k : ℕ) × (n ≡ k + 1) × (crosses_at g.units rs k ≡ true)
Has g rs (SideEntry n from to) = (k : ℕ) × (n ≡ k + 1) × IsSideAt g rs k from to
Has g rs (FreeCycle u) = IsOnFreeCycle g rs u
Has g rs Memory = ⊥

-- the order in which faults are told: by kind, by region, by edge; a cycle by its least unit
abbrev pub IsNoLater : RegionFault → RegionFault → Type 0
IsNoLater (Crossing k) (Crossing j) = k ≤ j
IsNoLater (Crossing k) other = Unit {0}
IsNoLater (SideEntry k from to) (Crossing j) = ⊥
IsNoLater (SideEntry k from to) (SideEntry j a b) = (k < j) ⊎ ((k ≡ j) × IsNoLaterPair from to a b)
IsNoLater (SideEntry k from to) other = Unit {0}
IsNoLater (FreeCycle u) (FreeCycle v) = u ≤ v
IsNoLater (FreeCycle u) Memory = Unit {0}
IsNoLater (FreeCycle u) other = ⊥
IsNoLater Memory other = ⊥

-- the first fault of all
pub record IsFirstFault (g : Flow) (rs : List Region) (fault : RegionFault) : Type 0 where
  pub has : Has g rs fault
  pub first : (other : RegionFault) → Has g rs other → IsNoLater fault other

-- no two regions clash, each has its header, and each is entered there alone
pub record AreNested (g : Flow) (rs : List Region) : Type 0 where
  pub crossing : (k : ℕ) → crosses_at g.units rs k ≡ false
  pub side : (k from to : ℕ) → IsSideAt g rs k from to → ⊥
