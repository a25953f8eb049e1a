-- How a graph is made of places.
use Rattle.std.specs.Prelude.{ℕ, ◌<◌, ◌≡◌, ◌⊎◌, Option, Some, None, Result, Ok, Err, List, [], ◌∷◌, Contains, All, AllPairs, map, length, slice_index, slice_index_or}
use Rattle.std.specs.List.Sorted.{IsStrictlyIncreasing}
use Rattle.visa_io.specs.declared.records.Code.{Code}
use Rattle.flow_graph.specs.Blocks.{AllFit, AreInOrder, starts_upto}
use Rattle.flow_graph.specs.Build.{AreFunctions, units_upto}
use Rattle.flow_graph.specs.Calls.{ChainAt, IsAgain, IsLeast}
use Rattle.flow_graph.specs.Code.{IsCode}
use Rattle.flow_graph.specs.EdgeLists.{AreInside, IsPointAmong, own_upto}
use Rattle.flow_graph.specs.Flow.{ComesBefore, Flow, IsFlow}
use Rattle.flow_graph.specs.FunctionParts.{AreEach, IsReturnPart, IsUnitPart}
use Rattle.flow_graph.specs.Net.{ArePlaces}
use Rattle.flow_graph.specs.Places.{IsNet}
use Rattle.flow_graph.specs.Sites.{site_of}
use Rattle.flow_graph.specs.declared.fault.FlowFault.{FlowFault}
use Rattle.flow_graph.specs.declared.fault.FlowFault.TheVariants as fault
use Rattle.flow_graph.specs.declared.function_parts.Parts.{Parts}
use Rattle.flow_graph.specs.declared.parts.Edge.{Edge}
use Rattle.flow_graph.specs.declared.places.Places.{Places}

abbrev pub address_at : Places → ℕ → ℕ
address_at places k = slice_index places.addresses.items k

-- what the tables of places keep, whatever the code
pub record AreBeside (places : Places) : Type 0 where
  pub net : IsNet places.net.items
  pub sites : length places.sites.items ≡ length places.net.items
  pub addresses : length places.addresses.items ≡ length places.net.items
  pub rise : IsStrictlyIncreasing places.addresses.items
  pub fits : AllFit places.sites.items
  pub at : (k : ℕ) → k < length places.addresses.items → (site_of places.sites.items k).at ≡ address_at places k
  pub inside : AreInside places.net.items (length places.addresses.items)

-- the addresses of units
pub record AreUnits (places : Places) (reached at : List ℕ) : Type 0 where
  pub are : at ≡ map (λ p. address_at places p) reached
  pub rise : IsStrictlyIncreasing at

pub record AreFunctionPlaces (places : Places) (functions : List ℕ) : Type 0 where
  pub rise : IsStrictlyIncreasing functions
  pub within : All (λ f. f < length places.net.items) functions

-- the edges of units and of the returns of functions
pub record AreEdges (places : Places) (reached functions : List ℕ) (returns : Parts) (edges : List Edge) : Type 0 where
  pub rise : AllPairs ComesBefore edges
  pub own : (e : Edge) → Contains (own_upto places.addresses.items places.net.items reached (length reached)) e → Contains edges e
  pub point : (e : Edge) → IsPointAmong places functions returns reached (length reached) e → Contains edges e
  pub only : (e : Edge) → Contains edges e → Contains (own_upto places.addresses.items places.net.items reached (length reached)) e ⊎ IsPointAmong places functions returns reached (length reached) e

-- the parts of a graph
pub record IsBuilt (places : Places) (start : ℕ) (reached at functions : List ℕ) (g : Flow) : Type 0 where
  pub entry : g.entry ≡ address_at places start
  pub units : g.units ≡ units_upto places.sites.items reached (length reached)
  pub functions_are : g.functions ≡ map (λ p. address_at places p) functions
  pub units_beside : length g.function_units ≡ length functions
  pub units_are : (k : ℕ) → k < length functions → IsUnitPart places (slice_index functions k) (slice_index_or g.function_units k [])
  pub returns : Parts
  pub returns_are : AreEach (λ k part. IsReturnPart places (slice_index functions k) part) returns (length functions)
  pub edges : AreEdges places reached functions returns g.edges
  pub blocks : AreInOrder (address_at places start ∷ starts_upto at places.sites.items reached (length reached)) g.blocks

-- the least recursive call, or else the depth alone
abbrev pub deep_of : Places → Option ℕ → FlowFault
deep_of places None = fault.Deep
deep_of places (Some k) = fault.Recursion (address_at places k)

abbrev pub IsDeepFault : Places → List ℕ → FlowFault → Type 0
IsDeepFault places functions f = (call : Option ℕ) × IsLeast (IsAgain places.net.items functions (length functions)) call × (f ≡ deep_of places call)

-- functions, and either a chain of 64 calls and what follows of it, or the graph
pub record IsDeepAnswer (places : Places) (start : ℕ) (reached functions : List ℕ) (f : FlowFault) : Type 0 where
  pub are : AreFunctions places.net.items start reached functions
  pub deep : (function : ℕ) × ChainAt places.net.items start 64 function
  pub fault : IsDeepFault places functions f

pub record IsGraphAnswer (places : Places) (start : ℕ) (reached at functions : List ℕ) (g : Flow) : Type 0 where
  pub are : AreFunctions places.net.items start reached functions
  pub shallow : (function : ℕ) → ChainAt places.net.items start 64 function → ⊥
  pub built : IsBuilt places start reached at functions g

abbrev pub IsDeepOr : Places → ℕ → List ℕ → List ℕ → Result Flow FlowFault → Type 0
IsDeepOr places start reached at (Ok g) = (functions : List ℕ) × IsGraphAnswer places start reached at functions g
IsDeepOr places start reached at (Err f) = (functions : List ℕ) × IsDeepAnswer places start reached functions f

-- what comes of places that are those of a code
abbrev pub IsAnswer : Places → ℕ → Result Flow FlowFault → Type 0
IsAnswer places start r = (code : Code) → IsCode code → ArePlaces code places → IsFlow code (address_at places start) r
