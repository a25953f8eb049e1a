-- The lists of a table, from the graph. This project's own.
use Rattle.std.specs.Prelude.{ℕ, ◌≡◌, ◌≢◌, ◌<◌, min, ◌==◌, if◌then◌else◌, Option, Some, None, List, [], ◌∷◌, suc, Contains, length, slice_index}
use Rattle.mips_isa.specs.Kinds.{kind_of}
use Rattle.mips_isa.specs.declared.instr.Kind.{Kind}
use Rattle.mips_isa.specs.declared.instr.Kind.TheVariants as kind
use Rattle.visa_io.specs.declared.records.Region.{Region}
use Rattle.flow_graph.specs.declared.parts.EdgeKind.{EdgeKind}
use Rattle.flow_graph.specs.declared.parts.Unit.{Unit as FlowUnit}
use Rattle.path_wcet.specs.declared.costs.Costs.{Costs}
use Rattle.path_wcet.specs.Known.{is_this}
use Rattle.path_wcet.specs.Paid.{cap}
use Rattle.path_wcet.specs.Static.{price_of, unit_price}

-- the place of an address
abbrev pub place : List ℕ → ℕ → ℕ
place [] a = 0
place (x ∷ xs) a = if x == a then 0 else suc (place xs a)

-- what a unit costs, up to the cap; nothing where the walk stops
abbrev pub unit_entry : Costs → Option ℕ → FlowUnit → ℕ
unit_entry costs to unit = if is_this to unit.at then 0 else min cap (unit_price unit costs)

abbrev pub edge_entry : EdgeKind → FlowUnit → ℕ
edge_entry k unit = price_of k unit.first

abbrev pub return_entry : Kind → Option ℕ
return_entry kind.Return = Some 0
return_entry k = None

-- a return has nothing ahead of it in its function
abbrev pub first_entry : Option ℕ → FlowUnit → Option ℕ
first_entry to unit = if is_this to unit.at then None else return_entry (kind_of unit.first)

-- what a lap of a region costs, by the place of its header
abbrev pub turn_at : List ℕ → List ℕ → Region → ℕ
turn_at addresses turns r = slice_index turns (place addresses r.header)

-- one region's count is put at the place of its header
pub record IsCountPut (addresses : List ℕ) (r : Region) (counts more : List ℕ) : Type 0 where
  pub beside : length more ≡ length counts
  pub here : (u : ℕ) → u < length addresses → slice_index addresses u ≡ r.header → slice_index more u ≡ r.count
  pub others : (u : ℕ) → u < length addresses → slice_index addresses u ≢ r.header → slice_index more u ≡ slice_index counts u

-- no two regions have one header
abbrev pub AreApart : List Region → Type 0
AreApart rs = (r x : Region) → Contains rs r → Contains rs x → r.header ≡ x.header → r ≡ x

-- the counts of regions stand at the places of their headers
abbrev pub ArePut : List ℕ → List Region → List ℕ → Type 0
ArePut addresses rs counts = (r : Region) → Contains rs r → (u : ℕ) → u < length addresses → slice_index addresses u ≡ r.header → slice_index counts u ≡ r.count
