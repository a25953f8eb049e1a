-- The units that others lead to, along edges of a region from units without a step, or along all but returns. This project's own.
use Rattle.std.specs.Prelude.{◌≡◌, ◌<◌, ◌≤◌, ℕ, Bool, true, false, ◌&&◌, not, Contains, List, length, slice_index_or}
use Rattle.visa_io.specs.declared.records.Code.{Code}
use Rattle.visa_io.specs.declared.records.Region.{Region}
use Rattle.flow_graph.specs.Flow.{Flow}
use Rattle.flow_graph.specs.Reached.{is_inner}
use Rattle.flow_graph.specs.declared.parts.Edge.{Edge}
use Rattle.flow_graph.specs.declared.parts.Unit.{Unit as FlowUnit}
use Rattle.loop_regions.specs.Walks.{holds}
use Rattle.run_law.specs.Program.{IsQuiet}
use Rattle.bound_checker.specs.Gone.{is_return}
use Rattle.bound_checker.specs.Room.{seen_at}
use Rattle.bound_checker.specs.Tally.{address_at, is_quiet}
use Rattle.bound_checker.specs.declared.room.Room.{Room}
use Rattle.bound_checker.specs.declared.search.Scope.{Scope}
use Rattle.bound_checker.specs.declared.search.Scope.TheVariants.{Quiet, Called}

abbrev pub is_quiet_edge : Region → FlowUnit → Edge → Bool
is_quiet_edge r unit e = ((is_inner e.kind && holds r e.from) && holds r e.to) && is_quiet r.counter unit

abbrev pub allows : Scope → FlowUnit → Edge → Bool
allows (Quiet r) unit e = is_quiet_edge r unit e
allows Called unit e = not (is_return e.kind)

-- edges by rising address of what they leave
abbrev pub AreFromRising : List Edge → Type 0
AreFromRising edges = (i j : ℕ) (d : Edge) → i ≤ j → j < length edges → (slice_index_or edges i d).from ≤ (slice_index_or edges j d).from

pub record IsFirstFrom (edges : List Edge) (a i : ℕ) : Type 0 where
  pub within : i ≤ length edges
  pub earlier : (j : ℕ) (d : Edge) → j < i → (slice_index_or edges j d).from < a
  pub later : (j : ℕ) (d : Edge) → i ≤ j → j < length edges → a ≤ (slice_index_or edges j d).from

-- an edge of the region from a unit without a step
pub record IsQuietEdge (code : Code) (r : Region) (e : Edge) : Type 0 where
  pub inner : is_inner e.kind ≡ true
  pub inside_from : holds r e.from ≡ true
  pub inside_to : holds r e.to ≡ true
  pub quiet : IsQuiet code r.counter e.from

abbrev pub IsAllowed : Code → Scope → Edge → Type 0
IsAllowed code (Quiet r) e = IsQuietEdge code r e
IsAllowed code Called e = is_return e.kind ≡ false

-- such an edge ends at the unit of a number
pub record EndsAt (code : Code) (g : Flow) (scope : Scope) (e : Edge) (j : ℕ) : Type 0 where
  pub within : j < length g.units
  pub at : address_at g j ≡ e.to
  pub allowed : IsAllowed code scope e

-- one leads from a unit to another, by their numbers
pub record LeadsTo (code : Code) (g : Flow) (scope : Scope) (k j : ℕ) : Type 0 where
  pub edge : Edge
  pub among : Contains g.edges edge
  pub from : edge.from ≡ address_at g k
  pub ends : EndsAt code g scope edge j

-- some lead there, one after the other
pub data IsLed (code : Code) (g : Flow) (scope : Scope) (k : ℕ) : ℕ → Type 0 where
  Stays : IsLed code g scope k k
  Goes : (i j : ℕ) → IsLed code g scope k i → LeadsTo code g scope i j → IsLed code g scope k j

-- all that is found leads to what is found
pub record IsSpread (code : Code) (g : Flow) (scope : Scope) (old new : Room) : Type 0 where
  pub kept : (j : ℕ) → seen_at old j ≡ true → seen_at new j ≡ true
  pub closed : (k j : ℕ) → seen_at new k ≡ true → LeadsTo code g scope k j → seen_at new j ≡ true
  pub only : (j : ℕ) → seen_at new j ≡ true → (k : ℕ) × (seen_at old k ≡ true) × IsLed code g scope k j
