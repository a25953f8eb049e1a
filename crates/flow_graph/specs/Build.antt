-- The parts of a graph, as the code makes them.
use Rattle.std.specs.Prelude.{ℕ, zero, suc, ◌≡◌, ◌⊎◌, Bool, Option, Some, None, List, [], ◌∷◌, ◌++◌, Contains, slice_index}
use Rattle.std.specs.List.Sorted.{IsStrictlyIncreasing}
use Rattle.mips_isa.specs.declared.instr.Instr.{Instr}
use Rattle.flow_graph.specs.Places.{IsSpread, exits_at}
use Rattle.flow_graph.specs.Sites.{site_of}
use Rattle.flow_graph.specs.declared.parts.Unit.{Unit as FlowUnit}
use Rattle.flow_graph.specs.declared.site.Exits.{Exits}
use Rattle.flow_graph.specs.declared.site.Site.{Site}
use Rattle.flow_graph.specs.declared.site.Slot.{Slot}
use Rattle.flow_graph.specs.declared.site.Slot.TheVariants as slot

-- the places reached from one, rising
pub record IsReach (net : List Exits) (enters : Bool) (start : ℕ) (found : List ℕ) : Type 0 where
  pub spread : IsSpread net enters (start ∷ []) found
  pub rise : IsStrictlyIncreasing found

-- one of these units calls a function
abbrev pub CalledBy : List Exits → List ℕ → ℕ → Type 0
CalledBy net reached f = (u : ℕ) × Contains reached u × ((exits_at net u).call ≡ Some f)

-- the functions: the entry, and what these units call, rising
pub record AreFunctions (net : List Exits) (entry : ℕ) (reached fs : List ℕ) : Type 0 where
  pub rise : IsStrictlyIncreasing fs
  pub are : (f : ℕ) → Contains fs f → (f ≡ entry) ⊎ CalledBy net reached f
  pub first : Contains fs entry
  pub whole : (f : ℕ) → CalledBy net reached f → Contains fs f

-- the unit at an address, by its first instruction and its slot
abbrev pub unit_by : ℕ → Instr → Slot → List FlowUnit
unit_by at first slot.Absent = record { at = at; length = 4; first = first; slot = None } ∷ []
unit_by at first (slot.Holds i) = record { at = at; length = 8; first = first; slot = Some i } ∷ []
unit_by at first slot.OffCode = []
unit_by at first slot.Reserved = []

abbrev pub unit_if : Option Instr → Site → List FlowUnit
unit_if None site = []
unit_if (Some first) site = unit_by site.at first site.slot

abbrev pub unit_at : Site → List FlowUnit
unit_at site = unit_if site.first site

abbrev pub listed_unit : Option FlowUnit → List FlowUnit
listed_unit None = []
listed_unit (Some unit) = unit ∷ []

-- the units at the first of some places
unfoldable pub units_upto : List Site → List ℕ → ℕ → List FlowUnit
units_upto sites places zero = []
units_upto sites places (suc n) = units_upto sites places n ++ unit_at (site_of sites (slice_index places n))
