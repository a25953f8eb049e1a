-- Regions nest in a graph, or have one first fault.
use Rattle.std.proofs.Common.{◌≡◌, ◌∙◌, refl, sym, ap, subst, ℕ, ◌⊎◌, inl, inr, ◌<◌, true, false, List, arith}
use Rattle.visa_io.specs.declared.records.Region.{Region}
use Rattle.task_text.specs.declared.task.Task.{Task}
use Rattle.flow_graph.specs.Flow.{Flow}
use Rattle.loop_regions.specs.Nested.{Numbered}
use Rattle.loop_regions.specs.Regions.{AreNested, Has, IsFirstFault, IsNoLater, IsNoLaterPair, IsOnFreeCycle}
use Rattle.loop_regions.specs.declared.fault.RegionFault.{RegionFault}
use Rattle.loop_regions.specs.declared.fault.RegionFault.TheVariants.{Crossing, SideEntry, FreeCycle, Memory}
use Rattle.admission.specs.Found.{HasNest}

same_pair : (x y z w : ℕ) → IsNoLaterPair x y z w → IsNoLaterPair z w x y → (x ≡ z) × (y ≡ w)
same_pair x y z w (inl l) (inl m) = absurd (omega (arith, l, m))
same_pair x y z w (inl l) (inr (e, m)) = absurd (omega (arith, l, e))
same_pair x y z w (inr (e, l)) (inl m) = absurd (omega (arith, e, m))
same_pair x y z w (inr (e, l)) (inr (d, m)) = (e, omega (arith, l, m))

abbrev IsNoLaterSide : ℕ → ℕ → ℕ → ℕ → ℕ → ℕ → Type 0
IsNoLaterSide k x y j z w = (k < j) ⊎ ((k ≡ j) × IsNoLaterPair x y z w)

same_side : (k x y j z w : ℕ) → IsNoLaterSide k x y j z w → IsNoLaterSide j z w k x y → (k ≡ j) × (x ≡ z) × (y ≡ w)
same_side k x y j z w (inl l) (inl m) = absurd (omega (arith, l, m))
same_side k x y j z w (inl l) (inr (e, m)) = absurd (omega (arith, l, e))
same_side k x y j z w (inr (e, l)) (inl m) = absurd (omega (arith, e, m))
same_side k x y j z w (inr (e, l)) (inr (d, m)) = let pair = same_pair x y z w l m in (e, pair.0, pair.1)

side_at : {k x y j z w : ℕ} → k ≡ j → x ≡ z → y ≡ w → SideEntry k x y ≡ SideEntry j z w
side_at p q r = rw (p, q, r) refl

tied : (one other : RegionFault) → IsNoLater one other → IsNoLater other one → one ≡ other
tied (Crossing k) (Crossing j) a b = ap Crossing (omega (arith, a, b))
tied (Crossing k) (SideEntry j x y) a b = absurd b
tied (Crossing k) (FreeCycle u) a b = absurd b
tied (Crossing k) Memory a b = absurd b
tied (SideEntry k x y) (Crossing j) a b = absurd a
tied (SideEntry k x y) (SideEntry j z w) a b = let same = same_side k x y j z w a b in side_at same.0 same.1 same.2
tied (SideEntry k x y) (FreeCycle u) a b = absurd b
tied (SideEntry k x y) Memory a b = absurd b
tied (FreeCycle u) (Crossing j) a b = absurd a
tied (FreeCycle u) (SideEntry j x y) a b = absurd a
tied (FreeCycle u) (FreeCycle v) a b = ap FreeCycle (omega (arith, a, b))
tied (FreeCycle u) Memory a b = absurd b
tied Memory other a b = absurd a

pub one_region_fault : (g : Flow) (rs : List Region) (one other : RegionFault) → IsFirstFault g rs one → IsFirstFault g rs other → one ≡ other
one_region_fault g rs one other first also = tied one other (first.first other also.has) (also.first one first.has)

true_false : {P : Type 0} → true ≡ false → P
true_false e = absurd (let b : ⊥ = cc in b)

pub nest_has_no_fault : (t : Task) (g : Flow) (n : Numbered) (fault : RegionFault) → HasNest t g n → IsFirstFault g t.regions fault → ⊥
nest_has_no_fault t g n fault has first = by_fault fault first.has
  where
    nested : AreNested g t.regions
    nested = subst (AreNested g) has.regions_are has.nest.nested

    by_fault : (f : RegionFault) → Has g t.regions f → ⊥
    by_fault (Crossing r) (k, is, crosses) = true_false (sym crosses ∙ nested.crossing k)
    by_fault (SideEntry r from to) (k, is, side) = nested.side k from to side
    by_fault (FreeCycle u) cycle = has.nest.acyclic u (subst (λ (rs : List Region). IsOnFreeCycle g rs u) (sym has.regions_are) cycle)
    by_fault Memory h = h
