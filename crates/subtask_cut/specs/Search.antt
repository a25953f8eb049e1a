-- What a search marks: the units that are reached from one along chosen edges. This project's own.
use Rattle.std.specs.Prelude.{◌≡◌, ◌≢◌, ◌<◌, ◌≤◌, ◌⊎◌, ◌↔◌, ◌+◌, ◌*◌, ◌==◌, ℕ, Bool, true, false, List, Option, Some, None, AllPairs, Contains, length, slice_index}
use Rattle.std.specs.List.Sorted.{IsStrictlyIncreasing}
use Rattle.flow_graph.specs.Reached.{is_inner}
use Rattle.flow_graph.specs.declared.parts.Edge.{Edge}
use Rattle.flow_graph.specs.declared.parts.EdgeKind.{EdgeKind}
use Rattle.loop_regions.specs.Cycles.{mark, unmarked}
use Rattle.loop_regions.specs.Nested.{NotBack}
use Rattle.loop_regions.specs.Ways.{AreAllJoined}
use Rattle.subtask_cut.specs.Ways.{IsReached, is_onward}
use Rattle.subtask_cut.specs.declared.search.Along.{Along}
use Rattle.subtask_cut.specs.declared.search.Along.TheVariants.{Inside, Onward}

-- something holds, or it doesn't
abbrev pub SaysWhether : Bool → Type 0 → Type 0
SaysWhether true P = P
SaysWhether false P = P → ⊥

-- the edges that a search follows
abbrev pub asked_by : Along → EdgeKind → Bool
asked_by Inside = is_inner
asked_by Onward = is_onward

abbrev pub is_this : Option ℕ → ℕ → Bool
is_this None u = false
is_this (Some v) u = v == u

-- edges by (from, to, kind) join units at rising addresses
pub record AreCharted (addresses : List ℕ) (edges : List Edge) : Type 0 where
  pub rise : IsStrictlyIncreasing addresses
  pub joined : AreAllJoined addresses edges
  pub order : AllPairs NotBack edges

-- the unit at an address is marked. Units are numbered by their addresses' places
pub record IsOn (addresses : List ℕ) (marks : List Bool) (a : ℕ) : Type 0 where
  pub number : ℕ
  pub below : number < length addresses
  pub at : slice_index addresses number ≡ a
  pub on : mark marks number ≡ true

-- the units that are reached from one without coming to another are marked
pub record AreMarked (addresses : List ℕ) (edges : List Edge) (asked : EdgeKind → Bool) (avoid : Option ℕ) (start : ℕ)
    (marks : List Bool) : Type 0 where
  pub beside : length marks ≡ length addresses
  pub are : (a : ℕ) → IsOn addresses marks a ↔ IsReached edges asked avoid start a

-- a search comes to a unit: it marks it and puts it on the list of work, unless it is marked or to be avoided; twice the
-- unmarked units and the work together don't grow
pub record HasCome (addresses : List ℕ) (avoid : Option ℕ) (a : ℕ) (old new : List Bool) (work more : List ℕ)
    : Type 0 where
  pub beside : length new ≡ length old
  pub kept : (b : ℕ) → IsOn addresses old b → IsOn addresses new b
  pub only : (b : ℕ) → IsOn addresses new b → IsOn addresses old b ⊎ ((b ≡ a) × (avoid ≢ Some a))
  pub here : avoid ≢ Some a → IsOn addresses new a
  pub still : (b : ℕ) → Contains work b → Contains more b
  pub owed : (b : ℕ) → Contains more b → Contains work b ⊎ IsOn addresses new b
  pub fresh : (b : ℕ) → IsOn addresses new b → IsOn addresses old b ⊎ Contains more b
  pub less : 2 * unmarked new + length more ≤ 2 * unmarked old + length work

-- one of these edges leads to a unit
pub record IsLedTo (asked : EdgeKind → Bool) (avoid : Option ℕ) (es : List Edge) (a : ℕ) : Type 0 where
  pub edge : Edge
  pub among : Contains es edge
  pub is_asked : asked edge.kind ≡ true
  pub to_is : edge.to ≡ a
  pub open_to : avoid ≢ Some a

-- a search follows these edges
pub record HasFollowed (addresses : List ℕ) (asked : EdgeKind → Bool) (avoid : Option ℕ) (es : List Edge)
    (old new : List Bool) (work more : List ℕ) : Type 0 where
  pub beside : length new ≡ length old
  pub kept : (b : ℕ) → IsOn addresses old b → IsOn addresses new b
  pub only : (b : ℕ) → IsOn addresses new b → IsOn addresses old b ⊎ IsLedTo asked avoid es b
  pub here : (e : Edge) → Contains es e → asked e.kind ≡ true → avoid ≢ Some e.to → IsOn addresses new e.to
  pub still : (b : ℕ) → Contains work b → Contains more b
  pub owed : (b : ℕ) → Contains more b → Contains work b ⊎ IsOn addresses new b
  pub fresh : (b : ℕ) → IsOn addresses new b → IsOn addresses old b ⊎ Contains more b
  pub less : 2 * unmarked new + length more ≤ 2 * unmarked old + length work

-- a search in progress: what is marked is reached, and units with edges that are still to be followed stand in `work`
pub record IsSearching (addresses : List ℕ) (edges : List Edge) (asked : EdgeKind → Bool) (avoid : Option ℕ) (start : ℕ)
    (marks : List Bool) (work : List ℕ) : Type 0 where
  pub beside : length marks ≡ length addresses
  pub met : (a : ℕ) → IsOn addresses marks a → IsReached edges asked avoid start a
  pub begun : avoid ≢ Some start → IsOn addresses marks start
  pub owed : (e : Edge) → Contains edges e → asked e.kind ≡ true → IsOn addresses marks e.from → avoid ≢ Some e.to
      → IsOn addresses marks e.to ⊎ Contains work e.from
  pub valid : (a : ℕ) → Contains work a → IsOn addresses marks a

-- the edges that leave a unit
abbrev pub AreFrom : List Edge → ℕ → List Edge → Type 0
AreFrom edges u es = (e : Edge) → Contains es e ↔ (Contains edges e × (e.from ≡ u))

-- the marked units, by rising address
pub record AreListed (addresses : List ℕ) (marks : List Bool) (us : List ℕ) : Type 0 where
  pub are : (a : ℕ) → Contains us a ↔ IsOn addresses marks a
  pub rise : IsStrictlyIncreasing us
