-- What comes of code: its first fault, or none.
use Rattle.std.proofs.Common.{ℕ, zero, suc, ◌<◌, ◌≡◌, ◌⊎◌, inl, inr, refl, sym, ap, subst, ◌∙◌, true, false, Option, Some, None, List, Contains, map, length, get_or, arith}
use Rattle.std.proofs.lemmas.Bool.{cases_eq}
use Rattle.std.proofs.lemmas.Grind.{get_or_default_zero}
use Rattle.std.proofs.lemmas.List.Elements.{Contains-get_or}
use Rattle.flow_graph.specs.Faults.{has_indirect, has_link_branch, leaves_code}
use Rattle.visa_io.specs.declared.records.Code.{Code}
use Rattle.flow_graph.specs.Build.{IsReach}
use Rattle.flow_graph.specs.Calls.{IsLeast}
use Rattle.flow_graph.specs.Code.{IsCode, is_code}
use Rattle.flow_graph.specs.Flow.{Has}
use Rattle.flow_graph.specs.Making.{AreUnits, address_at}
use Rattle.flow_graph.specs.Net.{ArePlaces}
use Rattle.flow_graph.specs.Own.{fault_of, least_upto, lesser, told_of}
use Rattle.flow_graph.specs.Reached.{Reached}
use Rattle.flow_graph.specs.Sites.{site_of}
use Rattle.flow_graph.specs.declared.faults.Flaw.{Flaw}
use Rattle.flow_graph.specs.declared.faults.Flaw.TheVariants as flaw
use Rattle.flow_graph.specs.declared.places.Places.{Places}
use Rattle.flow_graph.specs.declared.site.Site.{Site}
use Rattle.flow_graph.proofs.Bridge.{addr, code_at, met_reached, reached_met}
use Rattle.flow_graph.proofs.Levels.{least_same, lesser_least}
use Rattle.flow_graph.proofs.Members.{from_map, to_map}
use Rattle.flow_graph.proofs.OwnFaults.{Exactly, IsOf, told_exactly}

true_false : true ≡ false → ⊥
true_false e = cc

none_is_some : (v : ℕ) → None ≡ Some v → ⊥
none_is_some v e = cc

some_same : (x y : ℕ) → Some x ≡ Some y → x ≡ y
some_same x y e = cc

-- code at its places, and the units that are reached from an entry
pub record IsScene (code : Code) (p : Places) (start : ℕ) (reached at : List ℕ) : Type 0 where
  pub code_is : IsCode code
  pub places : ArePlaces code p
  pub below : start < length p.addresses.items
  pub reach : IsReach p.net.items true start reached
  pub units : AreUnits p reached at

-- what is reached is at a place that is reached
pub place_reached : (code : Code) (p : Places) (start : ℕ) (reached at : List ℕ) → IsScene code p start reached at → (u : ℕ) → Contains reached u → (u < length p.addresses.items) × Reached code (addr p start) (addr p u)
place_reached code p start reached at s u h = met_reached code p s.places true start u s.below (s.reach.spread.met u h)

pub reached_place : (code : Code) (p : Places) (start : ℕ) (reached at : List ℕ) → IsScene code p start reached at → (n : ℕ) → Reached code (addr p start) n → (u : ℕ) × Contains reached u × (addr p u ≡ n)
reached_place code p start reached at s n r =
    let m = reached_met code p s.places true start n s.below r in
    (m.place, s.reach.spread.whole m.place m.met, m.is)

pub unit_reached : (code : Code) (p : Places) (start : ℕ) (reached at : List ℕ) → IsScene code p start reached at → (n : ℕ) → Contains at n → Reached code (addr p start) n
unit_reached code p start reached at s n h =
    let i = from_map (λ (k : ℕ). address_at p k) reached n (subst (λ (l : List ℕ). Contains l n) s.units.are h) in
    subst (λ (m : ℕ). Reached code (addr p start) m) i.is (place_reached code p start reached at s i.of i.member).1

pub reached_unit : (code : Code) (p : Places) (start : ℕ) (reached at : List ℕ) → IsScene code p start reached at → (n : ℕ) → Reached code (addr p start) n → Contains at n
reached_unit code p start reached at s n r =
    let (u, among, is) = reached_place code p start reached at s n r in
    subst (λ (l : List ℕ). Contains l n) (sym s.units.are) (subst (λ (m : ℕ). Contains (map (λ (k : ℕ). address_at p k) reached) m) is (to_map (λ (k : ℕ). address_at p k) reached u among))

pub reached_code : (code : Code) (p : Places) (start : ℕ) (reached at : List ℕ) → IsScene code p start reached at → (n : ℕ) → Reached code (addr p start) n → is_code code n ≡ true
reached_code code p start reached at s n r =
    let (u, among, is) = reached_place code p start reached at s n r in
    subst (λ (m : ℕ). is_code code m ≡ true) is (code_at code p s.places u (place_reached code p start reached at s u among).0)

-- a fault of a unit by itself is told of a unit that is reached
pub record IsToldBy (code : Code) (entry : ℕ) (f : Flaw) (a : ℕ) : Type 0 where
  pub unit : ℕ
  pub reached : Reached code entry unit
  pub is : IsOf code entry f unit a

has_of : (code : Code) (entry : ℕ) (f : Flaw) (a : ℕ) → IsToldBy code entry f a → Has code entry (fault_of f a)
unfolding Has
has_of code entry flaw.Reserved a t = (record { unit = t.unit; reached = t.reached; has = t.is.0 }, t.is.1)
has_of code entry flaw.Indirect a t = (subst (λ (n : ℕ). Reached code entry n) (sym t.is.0) t.reached, subst (λ (n : ℕ). has_indirect code n ≡ true) (sym t.is.0) t.is.1)
has_of code entry flaw.LinkBranch a t = (subst (λ (n : ℕ). Reached code entry n) (sym t.is.0) t.reached, subst (λ (n : ℕ). has_link_branch code n ≡ true) (sym t.is.0) t.is.1)
has_of code entry flaw.SlotControl a t = (record { unit = t.unit; reached = t.reached; control = t.is.0; follows = t.is.1 }, t.is.2)
has_of code entry flaw.SlotTarget a t = (record { unit = t.unit; reached = t.reached; control = t.is.0; follows = t.is.1 }, t.is.2)
has_of code entry flaw.OffCode a t = inl (subst (λ (n : ℕ). Reached code entry n) (sym t.is.0) t.reached, subst (λ (n : ℕ). leaves_code code n ≡ true) (sym t.is.0) t.is.1)

of_has : (code : Code) (entry : ℕ) → is_code code entry ≡ true → (f : Flaw) (a : ℕ) → Has code entry (fault_of f a) → IsToldBy code entry f a
unfolding Has
of_has code entry on flaw.Reserved a h = record { unit = h.0.unit; reached = h.0.reached; is = (h.0.has, h.1) }
of_has code entry on flaw.Indirect a h = record { unit = a; reached = h.0; is = (refl, h.1) }
of_has code entry on flaw.LinkBranch a h = record { unit = a; reached = h.0; is = (refl, h.1) }
of_has code entry on flaw.SlotControl a h = record { unit = h.0.unit; reached = h.0.reached; is = (h.0.control, h.0.follows, h.1) }
of_has code entry on flaw.SlotTarget a h = record { unit = h.0.unit; reached = h.0.reached; is = (h.0.control, h.0.follows, h.1) }
of_has code entry on flaw.OffCode a (inl h) = record { unit = a; reached = h.0; is = (refl, h.1) }
of_has code entry on flaw.OffCode a (inr h) = absurd (true_false (sym on ∙ ap (is_code code) (sym h.0) ∙ h.1))

-- the least address of a kind
told_at : List Site → List ℕ → List ℕ → Flaw → ℕ → ℕ → Type 0
told_at sites places units f n a = (k : ℕ) × (k < n) × (told_of units f (site_of sites (get_or places k 0)) ≡ Some a)

exactly_least : (o : Option ℕ) → IsLeast (λ a. o ≡ Some a) o
exactly_least None = λ a e. none_is_some a e
exactly_least (Some b) = (refl, λ a e. omega (arith, some_same b a e))

least_told : (sites : List Site) (places units : List ℕ) (f : Flaw) (n : ℕ) → IsLeast (told_at sites places units f n) (least_upto sites places units f n)
unfolding least_upto told_at
least_told sites places units f zero = λ a h. omega (arith, h.1)
least_told sites places units f (suc n) =
    least_same _ _ (lesser (least_upto sites places units f n) (told_of units f (site_of sites (get_or places n 0)))) to from
    (lesser_least _ _ (least_upto sites places units f n) (told_of units f (site_of sites (get_or places n 0))) (least_told sites places units f n) (exactly_least (told_of units f (site_of sites (get_or places n 0)))))
  where
    to : (a : ℕ) → told_at sites places units f n a ⊎ (told_of units f (site_of sites (get_or places n 0)) ≡ Some a) → told_at sites places units f (suc n) a
    to a (inl (k, below, is)) = (k, omega (arith, below), is)
    to a (inr e) = (n, omega arith, e)

    from : (a : ℕ) → told_at sites places units f (suc n) a → told_at sites places units f n a ⊎ (told_of units f (site_of sites (get_or places n 0)) ≡ Some a)
    from a (k, below, is) = elim (cases_eq k n) [
      | inl e ↦ inr (subst (λ (m : ℕ). told_of units f (site_of sites (get_or places m 0)) ≡ Some a) e is)
      | inr other ↦ inl (k, omega (arith, below, other), is)
    ]

-- a kind of fault, at its least address
pub least_has : (code : Code) (p : Places) (start : ℕ) (reached at : List ℕ) → IsScene code p start reached at → (f : Flaw) → IsLeast (λ a. Has code (addr p start) (fault_of f a)) (least_upto p.sites.items reached at f (length reached))
unfolding told_at
least_has code p start reached at s f = least_same (told_at p.sites.items reached at f (length reached)) _ (least_upto p.sites.items reached at f (length reached)) to from (least_told p.sites.items reached at f (length reached))
  where
    exact : (u : ℕ) → Contains reached u → Exactly (told_of at f (site_of p.sites.items u)) (IsOf code (addr p start) f (addr p u))
    exact u among =
        let below = (place_reached code p start reached at s u among).0 in
        subst (λ (n : ℕ). Exactly (told_of at f (site_of p.sites.items u)) (IsOf code (addr p start) f n)) (s.places.sites.at u below)
        (told_exactly code (addr p start) p.addresses.items at (site_of p.sites.items u) s.code_is (s.places.sites.each u below) (unit_reached code p start reached at s) (reached_unit code p start reached at s) (reached_code code p start reached at s) f)

    to : (a : ℕ) → told_at p.sites.items reached at f (length reached) a → Has code (addr p start) (fault_of f a)
    to a (k, below, is) =
        let u = get_or reached k 0 in
        let among : Contains reached u = Contains-get_or reached k 0 below in
        has_of code (addr p start) f a (record { unit = addr p u; reached = (place_reached code p start reached at s u among).1; is = (subst (λ (o : Option ℕ). Exactly o (IsOf code (addr p start) f (addr p u))) is (exact u among)).0 })

    find : (u a : ℕ) (o : Option ℕ) → Exactly o (IsOf code (addr p start) f (addr p u)) → IsOf code (addr p start) f (addr p u) a → o ≡ Some a
    find u a None none is = absurd (none a is)
    find u a (Some b) some is = ap Some (some.1 a is)

    from : (a : ℕ) → Has code (addr p start) (fault_of f a) → told_at p.sites.items reached at f (length reached) a
    from a h =
        let t = of_has code (addr p start) (code_at code p s.places start s.below) f a h in
        let (u, (k, below, is_u), is) = reached_place code p start reached at s t.unit t.reached in
        let here : get_or reached k 0 ≡ u = sym (get_or_default_zero reached k u below) ∙ is_u in
        (k, below, subst (λ (m : ℕ). told_of at f (site_of p.sites.items m) ≡ Some a) (sym here) (find u a (told_of at f (site_of p.sites.items u)) (exact u (k, below, is_u)) (subst (λ (n : ℕ). IsOf code (addr p start) f n a) (sym is) t.is)))
