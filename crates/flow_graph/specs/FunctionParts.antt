-- The units and returns of functions, as the code keeps them.
use Rattle.std.specs.Prelude.{ℕ, zero, suc, ◌+◌, ◌<◌, ◌≤◌, ◌≡◌, Bool, true, false, if◌then◌else◌, List, [], ◌∷◌, ◌++◌, All, length, map, slice_index, slice_index_or}
use Rattle.mips_isa.specs.Kinds.{kind_of}
use Rattle.mips_isa.specs.declared.instr.Kind.{Kind}
use Rattle.mips_isa.specs.declared.instr.Kind.TheVariants as kind
use Rattle.flow_graph.specs.Build.{IsReach}
use Rattle.flow_graph.specs.Held.{IsWithin, part_at}
use Rattle.flow_graph.specs.Code.{passes}
use Rattle.flow_graph.specs.Sites.{site_of}
use Rattle.flow_graph.specs.declared.function_parts.FunctionParts.{FunctionParts}
use Rattle.flow_graph.specs.declared.function_parts.Parts.{Parts}
use Rattle.flow_graph.specs.declared.places.Places.{Places}
use Rattle.flow_graph.specs.declared.site.Site.{Site}
use Rattle.flow_graph.specs.declared.view.Place.{Place}

abbrev pub is_return_kind : Kind → Bool
is_return_kind kind.Return = true
is_return_kind k = false

abbrev pub is_return : Site → Bool
is_return site = passes (λ i. is_return_kind (kind_of i)) site.first

abbrev pub only_if : Bool → ℕ → List ℕ
only_if test at = if test then at ∷ [] else []

-- the addresses of the returns among the first of some units
unfoldable pub returns_upto : List ℕ → List Site → List ℕ → ℕ → List ℕ
returns_upto addresses sites places zero = []
returns_upto addresses sites places (suc n) =
    returns_upto addresses sites places n ++ only_if (is_return (site_of sites (slice_index places n))) (slice_index addresses (slice_index places n))

abbrev pub no_place : Place
no_place = record { start = 0; end = 0 }

-- the k-th part
abbrev pub part_of : Parts → ℕ → List ℕ
part_of parts k = part_at parts.addresses.items (slice_index_or parts.places.items k no_place)

pub record IsEmpty (parts : Parts) : Type 0 where
  pub addresses : parts.addresses.items ≡ []
  pub places : parts.places.items ≡ []

-- one more part
pub record Pushes (old : Parts) (part : List ℕ) (new : Parts) : Type 0 where
  pub addresses : new.addresses.items ≡ old.addresses.items ++ part
  pub places : new.places.items ≡ old.places.items ++ record { start = length old.addresses.items; end = length old.addresses.items + length part } ∷ []

-- so many parts, each with a fact
pub record AreEach (P : ℕ → List ℕ → Type 0) (parts : Parts) (n : ℕ) : Type 0 where
  pub count : length parts.places.items ≡ n
  pub within : (k : ℕ) → k < n → IsWithin (length parts.addresses.items) (slice_index_or parts.places.items k no_place)
  pub each : (k : ℕ) → k < n → P k (part_of parts k)

-- the units of a function, by their addresses
pub record IsUnitPart (places : Places) (f : ℕ) (part : List ℕ) : Type 0 where
  pub found : List ℕ
  pub reach : IsReach places.net.items false f found
  pub is : part ≡ map (λ p. slice_index places.addresses.items p) found

-- the returns among them
pub record IsReturnPart (places : Places) (f : ℕ) (part : List ℕ) : Type 0 where
  pub found : List ℕ
  pub reach : IsReach places.net.items false f found
  pub is : part ≡ returns_upto places.addresses.items places.sites.items found (length found)

-- the parts of the first of some functions
pub record AreParts (places : Places) (functions : List ℕ) (n : ℕ) (parts : FunctionParts) : Type 0 where
  pub units : AreEach (λ k part. IsUnitPart places (slice_index functions k) part) parts.units n
  pub returns : AreEach (λ k part. IsReturnPart places (slice_index functions k) part) parts.returns n

-- the loop over functions
pub record IsPartsLoop (places : Places) (functions : List ℕ) (n : ℕ) (stamps : List ℕ) (units returns : Parts) : Type 0 where
  pub beside : length stamps ≡ length places.net.items
  pub low : All (λ s. s ≤ n) stamps
  pub units_are : AreEach (λ k part. IsUnitPart places (slice_index functions k) part) units n
  pub returns_are : AreEach (λ k part. IsReturnPart places (slice_index functions k) part) returns n
