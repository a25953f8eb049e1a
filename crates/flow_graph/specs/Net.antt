-- The places of code, as its net of exits.
use Rattle.std.specs.Prelude.{ℕ, ◌≡◌, true, Some, Contains, map}
use Rattle.std.specs.List.Sorted.{IsStrictlyIncreasing}
use Rattle.visa_io.specs.declared.records.Code.{Code}
use Rattle.mips_isa.specs.Fits.{FieldsFit}
use Rattle.mips_isa.specs.declared.instr.Instr.{Instr}
use Rattle.flow_graph.specs.Code.{is_code}
use Rattle.flow_graph.specs.Sites.{AreSites, site_of}
use Rattle.flow_graph.specs.declared.places.Places.{Places}
use Rattle.flow_graph.specs.declared.site.Site.{Site}

-- all places of a code
pub record ArePlaces (code : Code) (places : Places) : Type 0 where
  pub rise : IsStrictlyIncreasing places.addresses.items
  pub all : (a : ℕ) → is_code code a ≡ true → Contains places.addresses.items a
  pub sites : AreSites code places.addresses.items places.sites.items
  pub net : places.net.items ≡ map (λ (site : Site). site.exits) places.sites.items
  pub fits : (k : ℕ) (i : Instr) → (site_of places.sites.items k).first ≡ Some i → FieldsFit i
