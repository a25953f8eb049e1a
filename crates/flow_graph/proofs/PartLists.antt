-- Lists that lie one after the other.
use Rattle.std.proofs.Common.{ℕ, ◌+◌, ◌-◌, ◌<◌, ◌≤◌, ◌≡◌, ◌⊎◌, inl, inr, refl, sym, ap, subst, ◌∙◌, false, List, ◌++◌, All, map, take, drop, length, get_or, replicate, arith, length-append, length-drop}
use Rattle.std.proofs.lemmas.Bool.{cases_lt}
use Rattle.std.proofs.lemmas.List.{drop-append-le, get_or_append_left, get_or_push, length-replicate, length_push, take-append-le}
use Rattle.std.proofs.lemmas.List.Elements.{All-replicate}
use Rattle.std.proofs.Math.Seq.{drop-append_seam, take-length}
use Rattle.flow_graph.specs.Build.{IsReach}
use Rattle.flow_graph.specs.FunctionParts.{AreEach, AreParts, IsEmpty, IsPartsLoop, Pushes, no_place, part_of, returns_upto}
use Rattle.flow_graph.specs.Held.{IsWithin, part_at}
use Rattle.flow_graph.specs.declared.function_parts.FunctionParts.{FunctionParts}
use Rattle.flow_graph.specs.declared.function_parts.Parts.{Parts}
use Rattle.flow_graph.specs.declared.places.Places.{Places}
use Rattle.flow_graph.specs.declared.site.Exits.{Exits}
use Rattle.flow_graph.specs.declared.view.Place.{Place}

-- a part stays where it is
part-kept : (xs ys : List ℕ) (p : Place) → IsWithin (length xs) p → part_at (xs ++ ys) p ≡ part_at xs p
part-kept xs ys p w =
    ap (take (p.end - p.start)) (drop-append-le p.start xs ys (omega (arith, w.ordered, w.within)))
    ∙ take-append-le (p.end - p.start) (drop p.start xs) ys (omega (arith, w.ordered, w.within, length-drop p.start xs))

part-new : (xs ys : List ℕ) → part_at (xs ++ ys) (record { start = length xs; end = length xs + length ys }) ≡ ys
part-new xs ys =
    ap (take (length xs + length ys - length xs)) (drop-append_seam xs ys)
    ∙ ap (λ (n : ℕ). take n ys) (back (length xs) (length ys)) ∙ take-length ys
  where
    back : (m n : ℕ) → m + n - m ≡ n
    back m n = omega arith

pub none_each : (P : ℕ → List ℕ → Type 0) (parts : Parts) → IsEmpty parts → AreEach P parts 0
none_each P parts e = record {
  count = ap length e.places;
  within = λ k below. absurd (omega (arith, below));
  each = λ k below. absurd (omega (arith, below));
}

pub one_more_part : (P : ℕ → List ℕ → Type 0) (old new : Parts) (part : List ℕ) (n : ℕ) → Pushes old part new → P n part → AreEach P old n → AreEach P new (n + 1)
one_more_part P old new part n p fact a = record {
  count = ap length p.places ∙ length_push old.places.items _ ∙ ap (λ (m : ℕ). m + 1) a.count;
  within = λ k below. within k (cases_lt k n) below;
  each = λ k below. each k (cases_lt k n) below;
}
  where
    place_old : (k : ℕ) → k < n → get_or new.places.items k no_place ≡ get_or old.places.items k no_place
    place_old k before = ap (λ (ps : List Place). get_or ps k no_place) p.places ∙ get_or_append_left old.places.items _ no_place k (omega (arith, before, a.count))

    place_new : (k : ℕ) → k ≡ n → get_or new.places.items k no_place ≡ record { start = length old.addresses.items; end = length old.addresses.items + length part }
    place_new k e = ap (λ (ps : List Place). get_or ps k no_place) p.places ∙ get_or_push old.places.items _ no_place k (omega (arith, e, a.count))

    longer : length new.addresses.items ≡ length old.addresses.items + length part
    longer = ap length p.addresses ∙ length-append old.addresses.items part

    within : (k : ℕ) → (k < n) ⊎ (n ≤ k) → k < n + 1 → IsWithin (length new.addresses.items) (get_or new.places.items k no_place)
    within k (inl before) below = subst (λ (q : Place). IsWithin (length new.addresses.items) q) (sym (place_old k before)) (record { ordered = (a.within k before).ordered; within = omega (arith, (a.within k before).within, longer) })
    within k (inr after) below = subst (λ (q : Place). IsWithin (length new.addresses.items) q) (sym (place_new k (omega (arith, after, below)))) (record { ordered = omega arith; within = omega (arith, longer) })

    each : (k : ℕ) → (k < n) ⊎ (n ≤ k) → k < n + 1 → P k (part_of new k)
    each k (inl before) below = subst (λ (l : List ℕ). P k l) (sym (ap (part_at new.addresses.items) (place_old k before) ∙ ap (λ (l : List ℕ). part_at l (get_or old.places.items k no_place)) p.addresses ∙ part-kept old.addresses.items part (get_or old.places.items k no_place) (a.within k before))) (a.each k before)
    each k (inr after) below =
        let e : k ≡ n = omega (arith, after, below) in
        subst (λ (m : ℕ). P m (part_of new k)) (sym e)
        (subst (λ (l : List ℕ). P n l) (sym (ap (part_at new.addresses.items) (place_new k e) ∙ ap (λ (l : List ℕ). part_at l (record { start = length old.addresses.items; end = length old.addresses.items + length part })) p.addresses ∙ part-new old.addresses.items part)) fact)

pub no_parts : (places : Places) (functions stamps : List ℕ) (n : ℕ) (units returns : Parts) → n ≡ length places.net.items → stamps ≡ replicate n 0 → IsEmpty units → IsEmpty returns → IsPartsLoop places functions 0 stamps units returns
no_parts places functions stamps n units returns e s u r = record {
  beside = ap length s ∙ length-replicate n 0 ∙ e;
  low = rw s (All-replicate (λ s. s ≤ 0) n 0 (omega arith));
  units_are = none_each _ units u;
  returns_are = none_each _ returns r;
}

pub more_parts : (places : Places) (functions stamps after found : List ℕ) (n : ℕ) (units units2 returns returns2 : Parts) → length after ≡ length places.net.items → All (λ s. s ≤ n + 1) after → IsReach places.net.items false (get_or functions n 0) found → Pushes units (map (λ p. get_or places.addresses.items p 0) found) units2 → Pushes returns (returns_upto places.addresses.items places.sites.items found (length found)) returns2 → IsPartsLoop places functions n stamps units returns → IsPartsLoop places functions (n + 1) after units2 returns2
more_parts places functions stamps after found n units units2 returns returns2 beside low reach u r l = record {
  beside = beside;
  low = low;
  units_are = one_more_part _ units units2 _ n u (record { found = found; reach = reach; is = refl }) l.units_are;
  returns_are = one_more_part _ returns returns2 _ n r (record { found = found; reach = reach; is = refl }) l.returns_are;
}

pub all_parts : (places : Places) (functions stamps : List ℕ) (n : ℕ) (parts : FunctionParts) → length functions ≤ n → n ≤ length functions → IsPartsLoop places functions n stamps parts.units parts.returns → AreParts places functions (length functions) parts
all_parts places functions stamps n parts over under l =
    let e : n ≡ length functions = omega (arith, over, under) in
    subst (λ (m : ℕ). AreParts places functions m parts) e (record { units = l.units_are; returns = l.returns_are })

pub found_within : (net net2 : List Exits) (start : ℕ) (found : List ℕ) (n : ℕ) → IsReach net false start found → net ≡ net2 → n ≡ length net2 → All (λ p. p < n) found
found_within net net2 start found n r e long = λ k d below. omega (arith, r.spread.within k d below, ap length e, long)
