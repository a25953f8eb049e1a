-- What stands at the addresses of code, as the code keeps it.
use Rattle.std.specs.Prelude.{ℕ, ◌+◌, ◌<◌, ◌≡◌, Bool, true, false, ◌&&◌, ◌||◌, not, is_some, is_none, Option, Some, None, List, length, slice_index, slice_index_or}
use Rattle.visa_io.specs.declared.records.Code.{Code}
use Rattle.mips_isa.specs.declared.instr.Instr.{Instr}
use Rattle.flow_graph.specs.Code.{instr_at, is_code, is_control_at, is_control_instr}
use Rattle.flow_graph.specs.Edges.{edge_of}
use Rattle.flow_graph.specs.Faults.{is_indirect, is_link_branch, leaves_code}
use Rattle.flow_graph.specs.Places.{exit_of, no_exits}
use Rattle.flow_graph.specs.Reached.{Leads}
use Rattle.flow_graph.specs.Table.{IsFound, IsTable}
use Rattle.flow_graph.specs.declared.parts.EdgeKind.{EdgeKind}
use Rattle.flow_graph.specs.declared.site.Exits.{Exits}
use Rattle.flow_graph.specs.declared.site.Site.{Site}
use Rattle.flow_graph.specs.declared.site.Slot.{Slot}
use Rattle.flow_graph.specs.declared.site.Slot.TheVariants as slot
use Rattle.flow_graph.specs.declared.table.Table.{Table}
use Rattle.flow_graph.specs.declared.ways.Ways.{Ways}

-- an address has no place
abbrev pub lacks : Option ℕ → Option ℕ → Bool
lacks at place = is_some at && is_none place

abbrev pub is_short : Ways → Exits → Bool
is_short w x = lacks w.next x.next || lacks w.taken x.taken || lacks w.call x.call || lacks w.over x.over

-- the place of an address
abbrev pub IsLocated : List ℕ → Option ℕ → Option ℕ → Type 0
IsLocated addresses None place = place ≡ None
IsLocated addresses (Some at) place = IsFound addresses at place

pub record AreLocated (addresses : List ℕ) (w : Ways) (x : Exits) : Type 0 where
  pub next : IsLocated addresses w.next x.next
  pub taken : IsLocated addresses w.taken x.taken
  pub call : IsLocated addresses w.call x.call
  pub over : IsLocated addresses w.over x.over

abbrev pub filled : Option Instr → Slot
filled None = slot.Reserved
filled (Some i) = slot.Holds i

abbrev pub is_plain_slot : Slot → Bool
is_plain_slot slot.Absent = true
is_plain_slot slot.OffCode = false
is_plain_slot slot.Reserved = false
is_plain_slot (slot.Holds i) = not (is_control_instr i)

abbrev pub is_off : Slot → Bool
is_off slot.Absent = false
is_off slot.OffCode = true
is_off slot.Reserved = false
is_off (slot.Holds i) = false

abbrev pub leaves_by : Slot → Ways → Exits → Bool
leaves_by slot w x = is_off slot || is_short w x

abbrev pub is_faulty_by : Bool → Instr → Slot → Bool
is_faulty_by leaves first slot = leaves || is_indirect first || is_link_branch first || not (is_plain_slot slot)

-- what stands in the slot of a unit
abbrev pub SlotIs : Code → ℕ → Slot → Type 0
SlotIs code at slot.Absent = is_control_at code at ≡ false
SlotIs code at slot.OffCode = (is_control_at code at ≡ true) × (is_code code (at + 4) ≡ false)
SlotIs code at slot.Reserved = (is_control_at code at ≡ true) × (is_code code (at + 4) ≡ true) × (instr_at code (at + 4) ≡ None)
SlotIs code at (slot.Holds i) = (is_control_at code at ≡ true) × (is_code code (at + 4) ≡ true) × (instr_at code (at + 4) ≡ Some i)

-- the exits of a unit are the edges along which it leads on
pub record IsLed (code : Code) (addresses : List ℕ) (at : ℕ) (x : Exits) : Type 0 where
  pub sound : (kind : EdgeKind) (v : ℕ) → exit_of x kind ≡ Some v → (v < length addresses) × Leads code (edge_of at (slice_index addresses v) kind)
  pub whole : (kind : EdgeKind) (a : ℕ) → Leads code (edge_of at a kind) → (v : ℕ) × (exit_of x kind ≡ Some v) × (v < length addresses) × (slice_index addresses v ≡ a)

-- what stands at an address of code
pub record IsSite (code : Code) (addresses : List ℕ) (site : Site) : Type 0 where
  pub is : is_code code site.at ≡ true
  pub first : instr_at code site.at ≡ site.first
  pub slot : SlotIs code site.at site.slot
  pub leaves : leaves_code code site.at ≡ site.leaves
  pub led : IsLed code addresses site.at site.exits

abbrev pub no_site : Site
no_site = record { at = 0; first = None; slot = slot.Absent; leaves = false; exits = no_exits }

abbrev pub site_of : List Site → ℕ → Site
site_of sites k = slice_index_or sites k no_site

-- each address of code has its site
pub record AreSites (code : Code) (addresses : List ℕ) (sites : List Site) : Type 0 where
  pub beside : length sites ≡ length addresses
  pub at : (k : ℕ) → k < length addresses → (site_of sites k).at ≡ slice_index addresses k
  pub each : (k : ℕ) → k < length addresses → IsSite code addresses (site_of sites k)

-- the same for whatever code a table is of
abbrev pub SlotOf : Table → ℕ → Instr → Slot → Type 0
SlotOf table at first slot = (code : Code) → IsTable code table → instr_at code at ≡ Some first → SlotIs code at slot

abbrev pub IsSiteAt : Table → ℕ → Instr → Site → Type 0
IsSiteAt table at first site =
    (site.at ≡ at) × ((code : Code) → IsTable code table → is_code code at ≡ true → instr_at code at ≡ Some first → IsSite code table.addresses.items site)

abbrev pub IsSiteOf : Table → ℕ → Site → Type 0
IsSiteOf table k site =
    (site.at ≡ slice_index table.addresses.items k) × ((code : Code) → IsTable code table → IsSite code table.addresses.items site)

-- the first sites of a table
pub record AreSitesOf (table : Table) (count : ℕ) (sites : List Site) : Type 0 where
  pub beside : length sites ≡ count
  pub each : (k : ℕ) → k < count → IsSiteOf table k (site_of sites k)
