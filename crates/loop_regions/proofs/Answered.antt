-- What comes of regions that stand beside each other.
use Rattle.std.proofs.Common.{◌≡◌, sym, subst, ℕ, List, Some, None, length}
use Rattle.std.specs.Prelude.{slice_index}
use Rattle.std.specs.List.Sorted.{IsStrictlyIncreasing}
use Rattle.visa_io.specs.declared.records.Region.{Region}
use Rattle.flow_graph.specs.Flow.{Flow}
use Rattle.loop_regions.specs.Cycles.{IsLeastOnCycle}
use Rattle.loop_regions.specs.Nested.{IsNest, IsNumbered, IsWhole, Numbered}
use Rattle.loop_regions.specs.Regions.{AreNested, IsFirstFault, IsOnFreeCycle}
use Rattle.loop_regions.specs.declared.fault.RegionFault.TheVariants.{FreeCycle}
use Rattle.loop_regions.proofs.Entries.{cycle_first}
use Rattle.loop_regions.proofs.FreeWays.{least_address, none_on_cycle, on_cycle}

rising : (g : Flow) (rs : List Region) (n : Numbered) → IsWhole g → IsNumbered g rs n → IsStrictlyIncreasing n.addresses
rising g rs n whole is = subst IsStrictlyIncreasing (sym is.addresses_are) whole.units

pub cycle_answer : (g : Flow) (rs : List Region) (n : Numbered) → IsWhole g → IsNumbered g rs n → AreNested g rs → (u : ℕ) → IsLeastOnCycle n.ways (length n.addresses) (Some u) → IsFirstFault g rs (FreeCycle (slice_index n.addresses u))
cycle_answer g rs n whole is nested u least =
    cycle_first g rs (slice_index n.addresses u) nested (on_cycle g n.addresses rs n.ways is.ways_are u least.1)
    (least_address g n.addresses rs n.ways is.ways_are (rising g rs n whole is) u least.0 least.2)

pub nest_answer : (g : Flow) (rs : List Region) (n : Numbered) → IsWhole g → IsNumbered g rs n → AreNested g rs → IsLeastOnCycle n.ways (length n.addresses) None → (n.regions ≡ rs) × IsNest g n
nest_answer g rs n whole is nested none = (
  is.regions_are,
  record {
    numbered = subst (λ (l : List Region). IsNumbered g l n) (sym is.regions_are) is;
    nested = subst (AreNested g) (sym is.regions_are) nested;
    acyclic = subst (λ (l : List Region). (a : ℕ) → IsOnFreeCycle g l a → ⊥) (sym is.regions_are) (none_on_cycle g n.addresses rs n.ways is.ways_are (rising g rs n whole is) none);
  },
)
