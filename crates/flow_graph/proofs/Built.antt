-- The parts of a graph, together.
use Rattle.std.proofs.Common.{ℕ, zero, suc, ◌+◌, ◌<◌, ◌≤◌, ◌≡◌, ◌⊎◌, inl, inr, refl, sym, ap, subst, ◌∙◌, Bool, true, false, Option, Some, None, List, [], ◌∷◌, ◌++◌, Contains, All, AllPairs, map, length, get_or, arith}
use Rattle.std.specs.List.Sorted.{IsStrictlyIncreasing}
use Rattle.std.proofs.lemmas.List.{get_or-map, get_or_default, length-map}
use Rattle.std.proofs.lemmas.List.Kept.{AllPairs-from_increasing}
use Rattle.std.proofs.lemmas.List.Elements.{Contains-append_cases, Contains-get_or}
use Rattle.std.proofs.lemmas.Bool.{cases_lt}
use Rattle.std.proofs.lemmas.Grind.{get_or_default_zero}
use Rattle.std.proofs.Math.ListN.{get_or-eq_default}
use Rattle.flow_graph.specs.Blocks.{AreInOrder, starts_upto}
use Rattle.flow_graph.specs.Build.{AreFunctions, CalledBy, IsReach, unit_at, units_upto}
use Rattle.flow_graph.specs.Calls.{IsAgain, IsDeep, IsLeast}
use Rattle.flow_graph.specs.Places.{no_exits}
use Rattle.flow_graph.specs.declared.fault.FlowFault.TheVariants.{Deep, Recursion}
use Rattle.flow_graph.specs.declared.function_parts.FunctionParts.{FunctionParts}
use Rattle.flow_graph.specs.declared.parts.Unit.{Unit as FlowUnit}
use Rattle.flow_graph.specs.declared.site.Site.{Site}
use Rattle.flow_graph.specs.declared.parts.EdgeKind.TheVariants.{Call}
use Rattle.flow_graph.specs.EdgeLists.{AreOrdered, IsPointAmong, More, own_upto}
use Rattle.flow_graph.specs.FunctionParts.{AreEach, AreParts, IsUnitPart, no_place}
use Rattle.flow_graph.specs.Flow.{Flow}
use Rattle.flow_graph.specs.declared.fault.FlowFault.{FlowFault}
use Rattle.flow_graph.specs.Held.{IsWithin, part_at}
use Rattle.flow_graph.specs.Making.{AreBeside, AreEdges, AreFunctionPlaces, AreUnits, IsBuilt, IsDeepAnswer, IsDeepFault, IsGraphAnswer, address_at}
use Rattle.flow_graph.specs.declared.function_parts.Parts.{Parts}
use Rattle.flow_graph.specs.declared.parts.Edge.{Edge}
use Rattle.flow_graph.specs.declared.places.Places.{Places}
use Rattle.flow_graph.specs.declared.site.Slot.{Slot}
use Rattle.flow_graph.specs.declared.site.Slot.TheVariants as slot
use Rattle.flow_graph.specs.Sites.{site_of}
use Rattle.mips_isa.specs.declared.instr.Instr.{Instr}
use Rattle.flow_graph.proofs.Members.{in_one, none_in_nil}
use Rattle.flow_graph.proofs.Rising.{pairs_rising, rising_pairs}
use Rattle.std.proofs.lemmas.List.{append-nil}
use Rattle.std.proofs.lemmas.List.Quantifiers.{all_pairs_push}
use Rattle.flow_graph.specs.declared.site.Exits.{Exits}
use Rattle.flow_graph.specs.declared.view.Place.{Place}

pub edges_made : (places : Places) (reached functions : List ℕ) (returns : Parts) (e0 e1 e2 e3 : List Edge) (addresses : List ℕ) (net : List Exits) → e0 ≡ [] → addresses ≡ places.addresses.items → net ≡ places.net.items → e1 ≡ e0 ++ own_upto addresses net reached (length reached)
    → More e1 (IsPointAmong places functions returns reached (length reached)) e2 → AreOrdered e2 e3 → AreEdges places reached functions returns e3
edges_made places reached functions returns e0 e1 e2 e3 addresses net none a n own more ordered = record {
  rise = ordered.rise;
  own = λ e h. ordered.kept e (more.kept e (subst (λ (l : List Edge). Contains l e) (sym first) h));
  point = λ e p. ordered.kept e (more.whole e p);
  only = λ e h. elim (more.only e (ordered.only e h)) [ inl o ↦ inl (subst (λ (l : List Edge). Contains l e) first o) | inr p ↦ inr p ];
}
  where
    first : e1 ≡ own_upto places.addresses.items places.net.items reached (length reached)
    first = own ∙ ap (λ (l : List Edge). l ++ own_upto addresses net reached (length reached)) none ∙ ap (λ (l : List ℕ). own_upto l net reached (length reached)) a ∙ ap (λ (l : List Exits). own_upto places.addresses.items l reached (length reached)) n

-- functions are places
pub function_places : (places : Places) (start : ℕ) (reached functions : List ℕ) → AreBeside places → start < length places.net.items → AreFunctions places.net.items start reached functions → AreFunctionPlaces places functions
function_places places start reached functions b below f = record {
  rise = f.rise;
  within = λ k d under. within (get_or functions k d) (f.are (get_or functions k d) (Contains-get_or functions k d under));
}
  where
    within : (g : ℕ) → (g ≡ start) ⊎ CalledBy places.net.items reached g → g < length places.net.items
    within g (inl e) = omega (arith, e, below)
    within g (inr (u, among, call)) = b.net.inside u g Call call

-- addresses of places that rise rise
pub rising_addresses : (places : Places) (reached : List ℕ) → AreBeside places → All (λ p. p < length places.net.items) reached → IsStrictlyIncreasing reached → IsStrictlyIncreasing (map (λ p. address_at places p) reached)
rising_addresses places reached b within rise k below =
    let long : length (map (λ (p : ℕ). get_or places.addresses.items p 0) reached) ≡ length reached = length-map reached (λ (p : ℕ). get_or places.addresses.items p 0) in
    rw (get_or-map (λ (p : ℕ). get_or places.addresses.items p 0) reached k 0 0 (omega (arith, long, below)), get_or-map (λ (p : ℕ). get_or places.addresses.items p 0) reached (k + 1) 0 0 (omega (arith, long, below)))
    (AllPairs-from_increasing places.addresses.items b.rise (get_or reached k 0) (get_or reached (k + 1) 0) 0 (rise k (omega (arith, long, below))) (omega (arith, within (k + 1) 0 (omega (arith, long, below)), b.addresses)))

-- what is seen of the parts of a graph
pub units_seen : (places : Places) (functions : List ℕ) (units : Parts) → AreEach (λ k part. IsUnitPart places (get_or functions k 0) part) units (length functions) → (length (map (part_at units.addresses.items) units.places.items) ≡ length functions) × ((k : ℕ) → k < length functions → IsUnitPart places (get_or functions k 0) (get_or (map (part_at units.addresses.items) units.places.items) k []))
units_seen places functions units a = (
  length-map units.places.items (part_at units.addresses.items) ∙ a.count,
  λ k below. subst (λ (l : List ℕ). IsUnitPart places (get_or functions k 0) l) (sym (get_or-map (part_at units.addresses.items) units.places.items k no_place [] (omega (arith, below, a.count)))) (a.each k below),
)

pub built_of : (places : Places) (start : ℕ) (reached at functions : List ℕ) (parts : FunctionParts) (entry : ℕ) (units : List FlowUnit) (edges : List Edge) (fs blocks addresses : List ℕ) (sites sites2 : List Site) → start < length places.addresses.items → entry ≡ get_or places.addresses.items start entry → sites ≡ places.sites.items → units ≡ units_upto sites reached (length reached) → addresses ≡ places.addresses.items → fs ≡ map (λ p. get_or addresses p 0) functions → sites2 ≡ places.sites.items → AreInOrder (entry ∷ starts_upto at sites2 reached (length reached)) blocks → AreParts places functions (length functions) parts → AreEdges places reached functions parts.returns edges → IsBuilt places start reached at functions (record { entry = entry; units = units; edges = edges; functions = fs; function_units = map (part_at parts.units.addresses.items) parts.units.places.items; blocks = blocks })
built_of places start reached at functions parts entry units edges fs blocks addresses sites sites2 below en s u a f s2 b p e = record {
  entry = here;
  units = subst (λ (l : List Site). units ≡ units_upto l reached (length reached)) s u;
  functions_are = subst (λ (l : List ℕ). fs ≡ map (λ (p : ℕ). get_or l p 0) functions) a f;
  units_beside = (units_seen places functions parts.units p.units).0;
  units_are = (units_seen places functions parts.units p.units).1;
  returns = parts.returns;
  returns_are = p.returns;
  edges = e;
  blocks = subst (λ (n : ℕ). AreInOrder (n ∷ starts_upto at places.sites.items reached (length reached)) blocks) here (subst (λ (l : List Site). AreInOrder (entry ∷ starts_upto at l reached (length reached)) blocks) s2 b);
}
  where
    here : entry ≡ get_or places.addresses.items start 0
    here = en ∙ get_or_default_zero places.addresses.items start entry below

none_is_some : (v : ℕ) → None ≡ Some v → ⊥
none_is_some v e = cc

-- a call that is found is a place
pub again_within : (net : List Exits) (functions : List ℕ) (n u : ℕ) → IsAgain net functions n u → u < length net
again_within net functions n u (k, below, met, call) = elim (cases_lt u (length net)) [
  | inl lt ↦ lt
  | inr over ↦ absurd (none_is_some (get_or functions k 0) (ap (λ (x : Exits). x.call) (sym (get_or-eq_default net no_exits over)) ∙ call))
]

pub deep_none : (places : Places) (functions : List ℕ) (net : List Exits) (o : Option ℕ) → net ≡ places.net.items → o ≡ None → IsLeast (IsAgain net functions (length functions)) o → IsDeepFault places functions Deep
deep_none places functions net o e none least = (None, subst (λ (x : Option ℕ). IsLeast (IsAgain places.net.items functions (length functions)) x) none (subst (λ (l : List Exits). IsLeast (IsAgain l functions (length functions)) o) e least), refl)

pub deep_some : (places : Places) (functions : List ℕ) (net : List Exits) (o : Option ℕ) (u at : ℕ) → length places.addresses.items ≡ length places.net.items → net ≡ places.net.items → o ≡ Some u → at ≡ get_or places.addresses.items u at → IsLeast (IsAgain net functions (length functions)) o → IsDeepFault places functions (Recursion at)
deep_some places functions net o u at long e some is least =
    let here : IsLeast (IsAgain places.net.items functions (length functions)) (Some u) = subst (λ (x : Option ℕ). IsLeast (IsAgain places.net.items functions (length functions)) x) some (subst (λ (l : List Exits). IsLeast (IsAgain l functions (length functions)) o) e least) in
    (Some u, here, ap Recursion (is ∙ get_or_default_zero places.addresses.items u at (omega (arith, long, again_within places.net.items functions (length functions) u here.0))))

pub some_within : (places : Places) (functions : List ℕ) (net : List Exits) (o : Option ℕ) (u : ℕ) → length places.addresses.items ≡ length places.net.items → net ≡ places.net.items → o ≡ Some u → IsLeast (IsAgain net functions (length functions)) o → u < length places.addresses.items
some_within places functions net o u long e some least =
    let here : IsLeast (IsAgain net functions (length functions)) (Some u) = subst (λ (x : Option ℕ). IsLeast (IsAgain net functions (length functions)) x) some least in
    omega (arith, long, ap (λ (l : List Exits). length l) e, again_within net functions (length functions) u here.0)

pub functions_within : (places : Places) (start : ℕ) (reached functions functions2 : List ℕ) (net : List Exits) → AreBeside places → start < length places.net.items → net ≡ places.net.items → functions2 ≡ functions → AreFunctions net start reached functions → AreFunctionPlaces places functions2
functions_within places start reached functions functions2 net b below e same f =
    subst (λ (l : List ℕ). AreFunctionPlaces places l) (sym same) (function_places places start reached functions b below (subst (λ (l : List Exits). AreFunctions l start reached functions) e f))

-- the parts lie among the addresses
pub places_within : (P : ℕ → List ℕ → Type 0) (parts : Parts) (n : ℕ) → AreEach P parts n → All (IsWithin (length parts.addresses.items)) parts.places.items
places_within P parts n a = λ k d below. subst (λ (q : Place). IsWithin (length parts.addresses.items) q) (get_or_default parts.places.items k no_place d below) (a.within k (omega (arith, below, a.count)))

-- the units that are found
pub units_found : (places : Places) (start : ℕ) (reached reached2 at : List ℕ) (addresses : List ℕ) (net : List Exits) → AreBeside places → net ≡ places.net.items → addresses ≡ places.addresses.items → reached2 ≡ reached → at ≡ map (λ p. get_or addresses p 0) reached2 → IsReach net true start reached → AreUnits places reached at
units_found places start reached reached2 at addresses net b e a same is r =
    let here : IsReach places.net.items true start reached = subst (λ (l : List Exits). IsReach l true start reached) e r in
    let are : at ≡ map (λ p. address_at places p) reached = is ∙ ap (λ (l : List ℕ). map (λ (p : ℕ). get_or addresses p 0) l) same ∙ ap (λ (l : List ℕ). map (λ (p : ℕ). get_or l p 0) reached) a in
    record { are = are; rise = subst IsStrictlyIncreasing (sym are) (rising_addresses places reached b here.spread.within here.rise) }

pub graph_answer : (places : Places) (start : ℕ) (reached at functions functions2 : List ℕ) (net net2 : List Exits) (b : Bool) (g : Flow) → net ≡ places.net.items → net2 ≡ places.net.items → functions2 ≡ functions → AreFunctions net start reached functions → b ≡ false → IsDeep net2 start b → IsBuilt places start reached at functions2 g → (fs : List ℕ) × IsGraphAnswer places start reached at fs g
graph_answer places start reached at functions functions2 net net2 b g e e2 same f not_deep deep built = (
  functions,
  record {
    are = subst (λ (l : List Exits). AreFunctions l start reached functions) e f;
    shallow = subst (λ (l : List Exits). IsDeep l start false) e2 (subst (λ (c : Bool). IsDeep net2 start c) not_deep deep);
    built = subst (λ (l : List ℕ). IsBuilt places start reached at l g) same built;
  },
)

pub fault_answer : (places : Places) (start : ℕ) (reached functions functions2 : List ℕ) (net net2 : List Exits) (b : Bool) (f : FlowFault) → net ≡ places.net.items → net2 ≡ places.net.items → functions2 ≡ functions → AreFunctions net start reached functions → b ≡ true → IsDeep net2 start b → IsDeepFault places functions2 f → (fs : List ℕ) × IsDeepAnswer places start reached fs f
fault_answer places start reached functions functions2 net net2 b f e e2 same are is_deep deep is = (
  functions,
  record {
    are = subst (λ (l : List Exits). AreFunctions l start reached functions) e are;
    deep = subst (λ (l : List Exits). IsDeep l start true) e2 (subst (λ (c : Bool). IsDeep net2 start c) is_deep deep);
    fault = subst (λ (l : List ℕ). IsDeepFault places l f) same is;
  },
)

-- a site has a unit or none
one_or_none : (site : Site) → (unit_at site ≡ []) ⊎ ((unit : FlowUnit) × (unit_at site ≡ unit ∷ []) × (unit.at ≡ site.at))
one_or_none site = by_first site.first refl
  where
    by_slot : (i : Instr) → site.first ≡ Some i → (s : Slot) → site.slot ≡ s → (unit_at site ≡ []) ⊎ ((unit : FlowUnit) × (unit_at site ≡ unit ∷ []) × (unit.at ≡ site.at))
    by_slot i e slot.Absent f = inr (record { at = site.at; length = 4; first = i; slot = None }, rw (e, f) refl, refl)
    by_slot i e (slot.Holds j) f = inr (record { at = site.at; length = 8; first = i; slot = Some j }, rw (e, f) refl, refl)
    by_slot i e slot.OffCode f = inl (rw (e, f) refl)
    by_slot i e slot.Reserved f = inl (rw (e, f) refl)

    by_first : (o : Option Instr) → site.first ≡ o → (unit_at site ≡ []) ⊎ ((unit : FlowUnit) × (unit_at site ≡ unit ∷ []) × (unit.at ≡ site.at))
    by_first None e = inl (rw e refl)
    by_first (Some i) e = by_slot i e site.slot refl

-- the units at the first of some places
pub record AreRising (places : Places) (reached : List ℕ) (n : ℕ) (units : List FlowUnit) : Type 0 where
  pub rise : AllPairs (λ a b. a.at < b.at) units
  pub each : (unit : FlowUnit) → Contains units unit → (k : ℕ) × (k < n) × (unit.at ≡ address_at places (get_or reached k 0))

rising_upto : (places : Places) (reached at : List ℕ) → AreBeside places → All (λ p. p < length places.net.items) reached → AreUnits places reached at → (n : ℕ) → n ≤ length reached → AreRising places reached n (units_upto places.sites.items reached n)
unfolding units_upto
rising_upto places reached at b within units zero few = record { rise = λ i j d less below. absurd (omega (arith, below)); each = λ unit h. absurd (none_in_nil unit h) }
rising_upto places reached at b within units (suc n) few = by_unit (rising_upto places reached at b within units n (omega (arith, few))) (one_or_none (site_of places.sites.items p))
  where
    p : ℕ
    p = get_or reached n 0

    before : List FlowUnit
    before = units_upto places.sites.items reached n

    pairs : AllPairs (λ x y. address_at places x < address_at places y) reached
    pairs = rising_pairs (λ x. address_at places x) reached (subst IsStrictlyIncreasing units.are units.rise)

    by_unit : AreRising places reached n before → (unit_at (site_of places.sites.items p) ≡ []) ⊎ ((unit : FlowUnit) × (unit_at (site_of places.sites.items p) ≡ unit ∷ []) × (unit.at ≡ (site_of places.sites.items p).at)) → AreRising places reached (suc n) (before ++ unit_at (site_of places.sites.items p))
    by_unit r (inl none) = subst (λ (l : List FlowUnit). AreRising places reached (suc n) l) (sym (ap (λ (l : List FlowUnit). before ++ l) none ∙ append-nil before)) (record {
      rise = r.rise;
      each = λ unit h. let (k, below, is) = r.each unit h in (k, omega (arith, below), is);
    })
    by_unit r (inr (unit, one, is)) =
        let here : unit.at ≡ address_at places p = is ∙ b.at p (omega (arith, within n 0 (omega (arith, few)), b.addresses)) in
        subst (λ (l : List FlowUnit). AreRising places reached (suc n) (before ++ l)) (sym one) (record {
          rise = all_pairs_push (λ x y. x.at < y.at) before unit r.rise (λ k d below.
              let (j, under, at_j) = r.each (get_or before k d) (Contains-get_or before k d below) in
              omega (arith, at_j, here, pairs j n 0 under (omega (arith, few))));
          each = λ u h. elim (Contains-append_cases before (unit ∷ []) u h) [
            | inl old ↦ let (k, below, at_k) = r.each u old in (k, omega (arith, below), at_k)
            | inr new ↦ (n, omega arith, ap (λ (x : FlowUnit). x.at) (sym (in_one u unit new)) ∙ here)
          ];
        })

pub units_rising : (places : Places) (reached at : List ℕ) → AreBeside places → All (λ p. p < length places.net.items) reached → AreUnits places reached at → IsStrictlyIncreasing (map (λ unit. unit.at) (units_upto places.sites.items reached (length reached)))
units_rising places reached at b within units = pairs_rising (λ (unit : FlowUnit). unit.at) (units_upto places.sites.items reached (length reached)) (rising_upto places reached at b within units (length reached) (omega arith)).rise

pub units_rising_at : (places : Places) (reached at : List ℕ) (sites : List Site) (units : List FlowUnit) → AreBeside places → All (λ p. p < length places.net.items) reached → AreUnits places reached at → sites ≡ places.sites.items → units ≡ units_upto sites reached (length reached) → IsStrictlyIncreasing (map (λ unit. unit.at) units)
units_rising_at places reached at sites units b within are s u =
    subst (λ (l : List FlowUnit). IsStrictlyIncreasing (map (λ unit. unit.at) l)) (sym (u ∙ ap (λ (l : List Site). units_upto l reached (length reached)) s)) (units_rising places reached at b within are)
