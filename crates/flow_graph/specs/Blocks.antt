-- Where blocks begin, as the code looks for it.
use Rattle.std.specs.Prelude.{ℕ, zero, suc, ◌+◌, ◌≡◌, Bool, if◌then◌else◌, Option, Some, None, List, [], ◌∷◌, ◌++◌, Contains, slice_index}
use Rattle.std.specs.List.Sorted.{IsStrictlyIncreasing}
use Rattle.mips_isa.specs.Fits.{FieldsFit}
use Rattle.mips_isa.specs.declared.instr.Instr.{Instr}
use Rattle.flow_graph.specs.Code.{is_control_instr}
use Rattle.flow_graph.specs.Edges.{target_of}
use Rattle.flow_graph.specs.Own.{is_among}
use Rattle.flow_graph.specs.Sites.{site_of}
use Rattle.flow_graph.specs.declared.site.Site.{Site}

-- the instructions at sites have words
abbrev pub AllFit : List Site → Type 0
AllFit sites = (k : ℕ) (i : Instr) → (site_of sites k).first ≡ Some i → FieldsFit i

-- the same addresses, rising
pub record AreInOrder (old new : List ℕ) : Type 0 where
  pub rise : IsStrictlyIncreasing new
  pub kept : (a : ℕ) → Contains old a → Contains new a
  pub only : (a : ℕ) → Contains new a → Contains old a

-- an address, if it is a unit
abbrev pub start_if : List ℕ → ℕ → List ℕ
start_if units a = if is_among units a then a ∷ [] else []

abbrev pub target_start : List ℕ → Option ℕ → List ℕ
target_start units None = []
target_start units (Some a) = start_if units a

abbrev pub past_start : List ℕ → Bool → ℕ → List ℕ
past_start units control at = if control then start_if units (at + 8) else []

abbrev pub starts_if : List ℕ → ℕ → Option Instr → List ℕ
starts_if units at None = []
starts_if units at (Some i) = target_start units (target_of i at) ++ past_start units (is_control_instr i) at

abbrev pub starts_of : List ℕ → Site → List ℕ
starts_of units site = starts_if units site.at site.first

-- of the first of some places
unfoldable pub starts_upto : List ℕ → List Site → List ℕ → ℕ → List ℕ
starts_upto units sites places zero = []
starts_upto units sites places (suc n) = starts_upto units sites places n ++ starts_of units (site_of sites (slice_index places n))
