-- The number that comes out is the greatest cost of a walk.
use Rattle.std.proofs.Common.{◌≡◌, ℕ, ◌+◌, ◌<◌, min, false, List, length, Option}
use Rattle.std.specs.Prelude.{slice_index}
use Rattle.flow_graph.specs.Flow.{Flow}
use Rattle.loop_regions.specs.Nested.{IsNest, IsWhole, Numbered}
use Rattle.path_wcet.specs.declared.costs.Costs.{Costs}
use Rattle.path_wcet.specs.Known.{Table, entry, is_this, lap, read}
use Rattle.path_wcet.specs.Longest.{AreCalls, AreCounted, IsBound, IsLongest, IsOpening, IsSmallPen, IsTableOf}
use Rattle.path_wcet.specs.Paid.{cap}
use Rattle.path_wcet.specs.Settled.{AreStops, IsFound, or_zero}
use Rattle.path_wcet.proofs.Attained.{attained_is, ends_at}
use Rattle.path_wcet.proofs.Most.{bound_is, net_of}
use Rattle.path_wcet.proofs.Near.{IsNet}
use Rattle.path_wcet.proofs.Small.{small_units}

pub longest_is : (g : Flow) (n : Numbered) (costs : Costs) (from : ℕ) (to : Option ℕ) (t : Table) (turns : List ℕ) (rets stops : List (Option ℕ)) → IsWhole g → AreCalls g → IsNest g n → AreCounted n.regions → IsSmallPen costs.pen → IsTableOf g n costs to t → IsFound t n turns rets → AreStops t n turns rets stops
    → IsOpening n from → is_this to from ≡ false → (k : ℕ) → k < length n.addresses → slice_index n.addresses k ≡ from → (most : ℕ) → most ≡ min cap (read t.units k + lap t turns k + or_zero (entry 0 stops k)) → IsLongest g n costs from to most
longest_is g n costs from to t turns rets stops whole calls nest counted small table found stopped opening other k inside at most is = record {
  bound = bound;
  attained = attained_is g n costs from to t turns rets stops whole calls nest table counted found stopped other k inside at most is bound;
}
  where
    net : IsNet t n turns
    net = net_of g n costs to t turns rets stops whole nest (λ u x there. let e = ends_at g n costs to t nest table u x there in (e.0, e.1)) found stopped

    bound : IsBound g n costs from to most
    bound = bound_is g n costs from to t turns rets stops whole calls nest table (small_units g costs small) net found stopped opening other k inside at most is
