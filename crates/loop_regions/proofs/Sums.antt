-- Sums over the places of a walk.
use Rattle.std.proofs.Common.{◌≡◌, refl, ap, ℕ, ◌+◌, ◌≤◌, Bool, true, false, List, [], ◌∷◌, ◌++◌, arith}
use Rattle.std.specs.Prelude.{Option, Some}
use Rattle.flow_graph.specs.declared.parts.Edge.{Edge}
use Rattle.loop_regions.specs.Walks.{LoopGraph}
use Rattle.loop_regions.specs.Places.{Place, places, unit_places, ats, IsFull}
use Rattle.loop_regions.specs.Costs.{Prices, entering, spent, young, unit_cost, walk_cost}

pub spent_append : (p : Prices) (charged : ℕ → Bool) (xs ys : List Place) → spent p charged (xs ++ ys) ≡ spent p charged xs + spent p charged ys
spent_append p charged [] ys = omega arith
spent_append p charged (x ∷ xs) ys = omega (arith, spent_append p charged xs ys)

unit_spent : (p : Prices) (charged : ℕ → Bool) (long : Bool) (u : ℕ) (by : Option Edge) → spent p charged (unit_places long u by) ≡ entering p by + unit_cost p charged long u
unit_spent p charged true u by = omega arith
unit_spent p charged false u by = omega arith

-- the places of a walk cost what the walk costs, and the edge before it
pub places_spent : (p : Prices) (charged : ℕ → Bool) (g : LoopGraph) (by : Option Edge) (u : ℕ) (es : List Edge) → spent p charged (places g by u es) ≡ entering p by + walk_cost p charged g u es
places_spent p charged g by u [] = unit_spent p charged (g.is_long u) u by
places_spent p charged g by u (e ∷ es) =
    omega (arith, spent_append p charged (unit_places (g.is_long e.to) e.to (Some e)) (places g by u es), unit_spent p charged (g.is_long e.to) e.to (Some e), places_spent p charged g by u es)

pub young_append : (p : Prices) (charged : ℕ → Bool) (xs ys : List Place) → IsFull ys → young p charged (xs ++ ys) ≡ spent p charged xs + young p charged ys
young_append p charged [] ys full = omega arith
young_append p charged (x ∷ []) [] full = absurd full
young_append p charged (x ∷ []) (y ∷ ys) full = omega arith
young_append p charged (x ∷ z ∷ xs) ys full = omega (arith, young_append p charged (z ∷ xs) ys full)

pub young_older : (p : Prices) (charged : ℕ → Bool) (xs ys : List Place) → young p charged ys ≤ young p charged (xs ++ ys)
young_older p charged xs [] = omega arith
young_older p charged xs (y ∷ ys) = omega (arith, young_append p charged xs (y ∷ ys) tt)

pub young_more : (p : Prices) (charged : ℕ → Bool) (xs ys : List Place) → young p charged xs ≤ young p charged (xs ++ ys)
young_more p charged [] ys = omega arith
young_more p charged (x ∷ []) [] = omega arith
young_more p charged (x ∷ []) (y ∷ ys) = omega arith
young_more p charged (x ∷ z ∷ xs) ys = omega (arith, young_more p charged (z ∷ xs) ys)

unit_full : (long : Bool) (u : ℕ) (by : Option Edge) → IsFull (unit_places long u by)
unit_full true u by = tt
unit_full false u by = tt

pub full_append : (xs ys : List Place) → IsFull ys → IsFull (xs ++ ys)
full_append [] ys full = full
full_append (x ∷ xs) ys full = tt

pub places_full : (g : LoopGraph) (by : Option Edge) (u : ℕ) (es : List Edge) → IsFull (places g by u es)
places_full g by u [] = unit_full (g.is_long u) u by
places_full g by u (e ∷ es) = full_append (unit_places (g.is_long e.to) e.to (Some e)) (places g by u es) (places_full g by u es)

unit_young : (p : Prices) (charged : ℕ → Bool) (long : Bool) (u : ℕ) (by : Option Edge) → young p charged (unit_places long u by) ≡ unit_cost p charged long u
unit_young p charged true u by = omega arith
unit_young p charged false u by = omega arith

pub places_young : (p : Prices) (charged : ℕ → Bool) (g : LoopGraph) (by : Option Edge) (u : ℕ) (es : List Edge) → young p charged (places g by u es) ≡ walk_cost p charged g u es
places_young p charged g by u [] = unit_young p charged (g.is_long u) u by
places_young p charged g by u (e ∷ es) =
    omega (arith, young_append p charged (unit_places (g.is_long e.to) e.to (Some e)) (places g by u es) (places_full g by u es), unit_spent p charged (g.is_long e.to) e.to (Some e), places_young p charged g by u es)

pub ats_append : (xs ys : List Place) → ats (xs ++ ys) ≡ ats xs ++ ats ys
ats_append [] ys = refl
ats_append (x ∷ xs) ys = ap (λ l. x.at ∷ l) (ats_append xs ys)
