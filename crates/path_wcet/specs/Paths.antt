-- What can be ahead of a unit: paths of a function with the laps of its loops and with what it calls. This project's own.
use Rattle.std.specs.Prelude.{ℕ, ◌+◌, ◌-◌, ◌*◌, ◌≤◌, ◌<◌, ◌≡◌, ◌⊎◌, true, false, Option, Some, None, List, Contains, length, slice_index}
use Rattle.visa_io.specs.declared.records.Region.{Region}
use Rattle.flow_graph.specs.declared.parts.EdgeKind.{EdgeKind}
use Rattle.flow_graph.specs.declared.parts.EdgeKind.TheVariants.{Next, Taken, Call, Return, Over}
use Rattle.loop_regions.specs.Nested.{Numbered}
use Rattle.loop_regions.specs.Walks.{holds}
use Rattle.loop_regions.specs.declared.ways.Way.{Way}
use Rattle.path_wcet.specs.declared.ahead.Aim.{Aim}
use Rattle.path_wcet.specs.declared.ahead.Aim.TheVariants as aim
use Rattle.path_wcet.specs.Known.{Table, called_by, entry_at, is_this, read}

-- what is sought: a path to an aim, the cost of a way, or all laps but the first of a region
pub data Goal : Type 0 where
  To : Aim → Goal
  Along : Way → Goal
  Laps : Goal

-- a path to this aim may go along a way: a lap stays in its region
abbrev pub Keeps : Aim → Way → Type 0
Keeps aim.Stop w = Unit {0}
Keeps aim.Return w = Unit {0}
Keeps (aim.Lap r) w = (holds r w.edge.from ≡ true) × (holds r w.edge.to ≡ true)

-- what an edge costs that goes to the next unit or to a target, with the unit that it enters
abbrev pub plain_amount : Table → Way → EdgeKind → Option ℕ
plain_amount t w Next = Some (read t.next w.from + read t.units w.to)
plain_amount t w Taken = Some (read t.taken w.from + read t.units w.to)
plain_amount t w Call = None
plain_amount t w Return = None
plain_amount t w Over = None

-- From a unit a goal can be reached at this cost. A path stops anywhere, and in a function that it calls; ends at a return; a lap
-- ends where it comes to the header again. Any other way leads on and not back, with laps of the region that begins where it leads
pub data Path (t : Table) (n : Numbered) : Goal → ℕ → ℕ → Type 0 where
  Stops : (u : ℕ) → u < length n.addresses → Path t n (To aim.Stop) u 0
  Returns : (u x : ℕ) → entry_at t.ends u ≡ Some x → Path t n (To aim.Return) u x
  Closes : (r : Region) (w : Way) (k : ℕ) → Contains n.ways w → w.edge.to ≡ r.header → holds r w.edge.from ≡ true → Path t n (Along w) w.from k → Path t n (To (aim.Lap r)) w.from k
  Goes : (to : Aim) (w : Way) (k b v : ℕ) → Contains n.ways w → w.back ≡ false → Keeps to w → Path t n (Along w) w.from k → Path t n Laps w.to b → Path t n (To to) w.to v → Path t n (To to) w.from (k + b + v)
  Calls : (w : Way) (f b v : ℕ) → Contains n.ways w → called_by t w w.edge.kind ≡ Some f → Path t n Laps f b → Path t n (To aim.Stop) f v → Path t n (To aim.Stop) w.from (read t.units f + b + v)
  Direct : (w : Way) (k : ℕ) → is_this t.last w.from ≡ false → plain_amount t w w.edge.kind ≡ Some k → Path t n (Along w) w.from k
  Through : (w : Way) (f b m : ℕ) → called_by t w w.edge.kind ≡ Some f → Path t n Laps f b → Path t n (To aim.Return) f m → Path t n (Along w) w.from (read t.units f + b + m + 2 + read t.units w.to)
  Once : (u : ℕ) → Path t n Laps u 0
  Again : (r : Region) (u c : ℕ) → Contains n.regions r → u < length n.addresses → slice_index n.addresses u ≡ r.header → Path t n (To (aim.Lap r)) u c → Path t n Laps u ((r.count - 1) * c)

-- a path costs at least this
pub record IsReached (t : Table) (n : Numbered) (goal : Goal) (u x : ℕ) : Type 0 where
  pub cost : ℕ
  pub path : Path t n goal u cost
  pub most : x ≤ cost

-- each entry is reached, in a list that begins at the unit of a number
abbrev pub AreReached : Table → Numbered → Aim → ℕ → List (Option ℕ) → Type 0
AreReached t n to base xs = (i x : ℕ) → entry_at xs i ≡ Some x → IsReached t n (To to) (base + i) x

-- some lap of the region that begins at a unit costs this
pub record IsTurn (t : Table) (n : Numbered) (u x : ℕ) : Type 0 where
  pub region : Region
  pub among : Contains n.regions region
  pub inside : u < length n.addresses
  pub at : slice_index n.addresses u ≡ region.header
  pub reached : IsReached t n (To (aim.Lap region)) u x

abbrev pub AreTurns : Table → Numbered → List ℕ → Type 0
AreTurns t n turns = (u : ℕ) → (slice_index turns u ≡ 0) ⊎ IsTurn t n u (slice_index turns u)

-- the counts of the regions by the numbers of their headers
abbrev pub AreCounts : Numbered → List ℕ → Type 0
AreCounts n counts = (r : Region) → Contains n.regions r → (u : ℕ) → u < length n.addresses → slice_index n.addresses u ≡ r.header → slice_index counts u ≡ r.count

-- a path to this aim may begin along a way
abbrev pub Begins : Aim → Way → Type 0
Begins aim.Stop w = Unit {0}
Begins aim.Return w = Unit {0}
Begins (aim.Lap r) w = holds r w.edge.from ≡ true

pub record IsFitting (n : Numbered) (to : Aim) (w : Way) : Type 0 where
  pub among : Contains n.ways w
  pub begins : Begins to w
