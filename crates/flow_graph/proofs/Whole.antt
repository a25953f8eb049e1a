-- What is built of places is the graph of their code.
use Rattle.std.proofs.Common.{ℕ, zero, suc, ◌+◌, ◌<◌, ◌≤◌, ◌≡◌, ◌⊎◌, inl, inr, refl, sym, ap, subst, ◌∙◌, Bool, true, false, if◌then◌else◌, Option, Some, None, Result, Ok, Err, List, [], ◌∷◌, Contains, All, map, length, get_or, arith}
use Rattle.std.specs.List.{slice_get}
use Rattle.std.specs.List.Sorted.{IsStrictlyIncreasing}
use Rattle.std.specs.Option.{option_and_then}
use Rattle.std.proofs.lemmas.Bool.{cases_eq}
use Rattle.std.proofs.lemmas.Grind.{get_or_default_zero}
use Rattle.std.proofs.lemmas.List.{get_or-map, length-map}
use Rattle.std.proofs.lemmas.List.Elements.{Contains-append_cases, Contains-append_left, Contains-append_right, Contains-get_or}
use Rattle.std.proofs.lemmas.Option.{get_or_from_slice_get, slice_get_within}
use Rattle.visa_io.specs.declared.records.Code.{Code}
use Rattle.mips_isa.specs.declared.instr.Instr.{Instr}
use Rattle.flow_graph.specs.Blocks.{past_start, start_if, starts_if, starts_of, starts_upto, target_start}
use Rattle.flow_graph.specs.Build.{CalledBy, IsReach, unit_at, unit_if, units_upto}
use Rattle.flow_graph.specs.Code.{instr_at, is_code, is_control_instr, passes}
use Rattle.flow_graph.specs.Edges.{target_of}
use Rattle.flow_graph.specs.Flow.{Flow, HasShape, IsFirst, IsFlow, IsGraph, IsUnit, IsUnitsOf}
use Rattle.flow_graph.specs.FunctionParts.{IsUnitPart}
use Rattle.flow_graph.specs.Making.{AreBeside, AreUnits, IsAnswer, IsDeepOr, address_at}
use Rattle.flow_graph.specs.Own.{first_fault_of, is_among}
use Rattle.flow_graph.specs.declared.fault.FlowFault.TheVariants as fault
use Rattle.flow_graph.proofs.Firsts.{IsVerdict, NoneUpto, verdict}
use Rattle.flow_graph.proofs.Firsts.IsVerdict.{Clean, Told}
use Rattle.flow_graph.proofs.Reaching.{reached_here}
use Rattle.flow_graph.specs.Reached.{BeginsBlock, CallsAt, IsFunction, IsStart, IsUnitOf, Reached, is_any}
use Rattle.flow_graph.specs.Sites.{IsSite, site_of}
use Rattle.flow_graph.specs.declared.fault.FlowFault.{FlowFault}
use Rattle.flow_graph.specs.declared.parts.Unit.{Unit as FlowUnit}
use Rattle.flow_graph.specs.declared.places.Places.{Places}
use Rattle.flow_graph.specs.declared.site.Exits.{Exits}
use Rattle.flow_graph.specs.declared.site.Site.{Site}
use Rattle.flow_graph.proofs.Bridge.{addr, code_at, met_reached, reached_met}
use Rattle.flow_graph.proofs.Built.{rising_addresses}
use Rattle.flow_graph.proofs.Depths.{at_calls, calls_at, clean, deep_first, reached_function}
use Rattle.flow_graph.proofs.Edges2.{IsBuiltScene, edge_is, is_edge}
use Rattle.flow_graph.proofs.Found.{among_is, is_among_in}
use Rattle.flow_graph.proofs.Graphs.{in_units, one_unit, unit_shape, units_at, units_in, whole_site}
use Rattle.flow_graph.proofs.Members.{from_map, in_cons, in_head, in_one, in_tail, none_in_nil, take_all, to_map}
use Rattle.flow_graph.proofs.Verdict.{IsScene, place_reached, reached_place, reached_unit, unit_reached}

none_some : (v : ℕ) → None ≡ Some v → ⊥
none_some v e = cc

false_true : false ≡ true → ⊥
false_true e = cc

some_same_instr : (x y : Instr) → Some x ≡ Some y → x ≡ y
some_same_instr x y e = cc

same_unit : {a a' l l' : ℕ} {f f' : Instr} {s s' : Option Instr} → a ≡ a' → l ≡ l' → f ≡ f' → s ≡ s' → let one : FlowUnit = record { at = a; length = l; first = f; slot = s } in one ≡ record { at = a'; length = l'; first = f'; slot = s' }
same_unit p q r t = rw (p, q, r, t) refl

-- units
unit_is : (code : Code) (p : Places) (start : ℕ) (reached at functions : List ℕ) (g : Flow) → IsBuiltScene code p start reached at functions g → (unit : FlowUnit) → Contains g.units unit → IsUnit code (addr p start) unit
unit_is code p start reached at functions g b unit h =
    let (u, among, listed) = in_units p.sites.items reached (length reached) unit (omega arith) (subst (λ (l : List FlowUnit). Contains l unit) b.built.units h) in
    let r = place_reached code p start reached at b.scene u among in
    let site : IsSite code p.addresses.items (site_of p.sites.items u) = b.scene.places.sites.each u r.0 in
    let whole = whole_site code p start reached at b.scene b.clean u among in
    let shape = unit_shape code (site_of p.sites.items u) (site_of p.sites.items u).at site.slot whole.instr (site.first ∙ whole.first) unit (subst (λ (o : Option Instr). Contains (unit_if o (site_of p.sites.items u)) unit) whole.first listed) in
    record {
      reached = subst (λ (n : ℕ). Reached code (addr p start) n) (sym (shape.0 ∙ b.scene.places.sites.at u r.0)) r.1;
      first = ap (instr_at code) shape.0 ∙ site.first ∙ whole.first ∙ ap Some (sym shape.1);
      shape = shape.2;
    }

same_shape : (code : Code) (unit other : FlowUnit) (c : Bool) → other.at ≡ unit.at → other.first ≡ unit.first → HasShape code unit c → HasShape code other c → unit ≡ other
same_shape code unit other true a f h k = same_unit (sym a) (h.1 ∙ sym k.1) (sym f) (sym h.0 ∙ ap (λ (n : ℕ). instr_at code (n + 4)) (sym a) ∙ k.0)
same_shape code unit other false a f h k = same_unit (sym a) (h.1 ∙ sym k.1) (sym f) (h.0 ∙ sym k.0)

is_unit : (code : Code) (p : Places) (start : ℕ) (reached at functions : List ℕ) (g : Flow) → IsBuiltScene code p start reached at functions g → (unit : FlowUnit) → IsUnit code (addr p start) unit → Contains g.units unit
is_unit code p start reached at functions g b unit i =
    let (u, (j, below, is_j), is) = reached_place code p start reached at b.scene unit.at i.reached in
    let here : get_or reached j 0 ≡ u = sym (get_or_default_zero reached j u below) ∙ is_j in
    let among : Contains reached u = (j, below, is_j) in
    let r = place_reached code p start reached at b.scene u among in
    let site : IsSite code p.addresses.items (site_of p.sites.items u) = b.scene.places.sites.each u r.0 in
    let whole = whole_site code p start reached at b.scene b.clean u among in
    let one = one_unit (site_of p.sites.items u) whole.instr whole.first (site_of p.sites.items u).slot refl whole.slot in
    let listed : Contains (unit_at (site_of p.sites.items u)) one.0 = subst (λ (l : List FlowUnit). Contains l one.0) (sym one.1) (in_head one.0 []) in
    let shape = unit_shape code (site_of p.sites.items u) (site_of p.sites.items u).at site.slot whole.instr (site.first ∙ whole.first) one.0 (subst (λ (o : Option Instr). Contains (unit_if o (site_of p.sites.items u)) one.0) whole.first listed) in
    let at_is : one.0.at ≡ unit.at = shape.0 ∙ b.scene.places.sites.at u r.0 ∙ is in
    let first_is : one.0.first ≡ unit.first = shape.1 ∙ some_same_instr whole.instr unit.first (sym whole.first ∙ sym site.first ∙ ap (instr_at code) (b.scene.places.sites.at u r.0 ∙ is) ∙ i.first) in
    let same : unit ≡ one.0 = same_shape code unit one.0 (is_control_instr unit.first) at_is first_is i.shape (subst (λ (x : Instr). HasShape code one.0 (is_control_instr x)) first_is shape.2) in
    subst (λ (l : List FlowUnit). Contains l unit) (sym b.built.units)
    (subst (λ (x : FlowUnit). Contains (units_upto p.sites.items reached (length reached)) x) (sym same)
    (units_in p.sites.items reached (length reached) j one.0 below (subst (λ (n : ℕ). Contains (unit_at (site_of p.sites.items n)) one.0) (sym here) listed)))

-- functions
function_is : (code : Code) (p : Places) (start : ℕ) (reached at functions : List ℕ) (g : Flow) → IsBuiltScene code p start reached at functions g → (f : ℕ) → Contains g.functions f → IsFunction code (addr p start) f
function_is code p start reached at functions g b f h =
    let i = from_map (λ (k : ℕ). address_at p k) functions f (subst (λ (l : List ℕ). Contains l f) b.built.functions_are h) in
    subst (λ (n : ℕ). IsFunction code (addr p start) n) i.is (by_case i.of (b.are.are i.of i.member))
  where
    by_case : (k : ℕ) → (k ≡ start) ⊎ CalledBy p.net.items reached k → IsFunction code (addr p start) (address_at p k)
    by_case k (inl e) = inl (ap (address_at p) e, subst (λ (n : ℕ). is_code code (addr p n) ≡ true) (sym e) (code_at code p b.scene.places start b.scene.below))
    by_case k (inr (u, among, call)) =
        let r = place_reached code p start reached at b.scene u among in
        inr (record { caller = addr p u; reached = r.1; calls = (calls_at code p start reached at b.scene u k r.0 call).1 })

is_function : (code : Code) (p : Places) (start : ℕ) (reached at functions : List ℕ) (g : Flow) → IsBuiltScene code p start reached at functions g → (f : ℕ) → IsFunction code (addr p start) f → Contains g.functions f
is_function code p start reached at functions g b f h = subst (λ (l : List ℕ). Contains l f) (sym b.built.functions_are) (by_case h)
  where
    by_case : IsFunction code (addr p start) f → Contains (map (λ (k : ℕ). address_at p k) functions) f
    by_case (inl e) = subst (λ (n : ℕ). Contains (map (λ (k : ℕ). address_at p k) functions) n) (sym e.0) (to_map (λ (k : ℕ). address_at p k) functions start b.are.first)
    by_case (inr c) =
        let (u, among, is) = reached_place code p start reached at b.scene c.caller c.reached in
        let below = (place_reached code p start reached at b.scene u among).0 in
        let x = at_calls code p start reached at b.scene u f below (subst (λ (n : ℕ). CallsAt code n f) (sym is) c.calls) in
        subst (λ (n : ℕ). Contains (map (λ (k : ℕ). address_at p k) functions) n) x.3 (to_map (λ (k : ℕ). address_at p k) functions x.0 (b.are.whole x.0 (u, among, x.1)))

-- the units of functions
units_of : (code : Code) (p : Places) (start : ℕ) (reached at functions : List ℕ) (g : Flow) → IsBuiltScene code p start reached at functions g → AreBeside p → (k : ℕ) (us : List ℕ) → slice_get g.function_units k ≡ Some us → IsUnitsOf code (get_or g.functions k 0) us
units_of code p start reached at functions g b beside k us e =
    let below : k < length functions = omega (arith, slice_get_within g.function_units k us e, b.built.units_beside) in
    let part : IsUnitPart p (get_or functions k 0) us = subst (λ (l : List ℕ). IsUnitPart p (get_or functions k 0) l) (get_or_from_slice_get g.function_units k us [] e) (b.built.units_are k below) in
    let f_is : get_or g.functions k 0 ≡ addr p (get_or functions k 0) = ap (λ (l : List ℕ). get_or l k 0) b.built.functions_are ∙ get_or-map (λ (n : ℕ). address_at p n) functions k 0 0 below in
    let in_f : get_or functions k 0 < length p.addresses.items = (reached_function code p start reached at functions b.scene b.are (get_or functions k 0) (Contains-get_or functions k 0 below)).0 in
    subst (λ (n : ℕ). IsUnitsOf code n us) (sym f_is) (record {
      are = λ u. (
        λ h. let i = from_map (λ (n : ℕ). address_at p n) part.found u (subst (λ (l : List ℕ). Contains l u) part.is h) in
            subst (λ (n : ℕ). IsUnitOf code (addr p (get_or functions k 0)) n) i.is (met_reached code p b.scene.places false (get_or functions k 0) i.of in_f (part.reach.spread.met i.of i.member)).1,
        λ r. let m = reached_met code p b.scene.places false (get_or functions k 0) u in_f r in
            subst (λ (l : List ℕ). Contains l u) (sym part.is) (subst (λ (n : ℕ). Contains (map (λ (k : ℕ). address_at p k) part.found) n) m.is (to_map (λ (k : ℕ). address_at p k) part.found m.place (part.reach.spread.whole m.place m.met))),
      );
      rise = subst IsStrictlyIncreasing (sym part.is) (rising_addresses p part.found beside part.reach.spread.within part.reach.rise);
    })

-- blocks
in_start_if : (units : List ℕ) (n a : ℕ) → Contains (start_if units n) a → (a ≡ n) × Contains units a
in_start_if units n a h = by_test (is_among units n) refl h
  where
    by_test : (b : Bool) → is_among units n ≡ b → Contains (if b then n ∷ [] else []) a → (a ≡ n) × Contains units a
    by_test true e h = let same = sym (in_one a n h) in (same, subst (λ (m : ℕ). Contains units m) (sym same) (is_among_in units n e))
    by_test false e h = absurd (none_in_nil a h)

start_if_in : (units : List ℕ) (a : ℕ) → Contains units a → Contains (start_if units a) a
start_if_in units a h = rw (among_is units a h) (in_head a [])

in_starts : (units : List ℕ) (sites : List Site) (places : List ℕ) (n a : ℕ) → n ≤ length places → Contains (starts_upto units sites places n) a → (u : ℕ) × Contains places u × Contains (starts_of units (site_of sites u)) a
unfolding starts_upto
in_starts units sites places zero a few h = absurd (none_in_nil a h)
in_starts units sites places (suc n) a few h = elim (Contains-append_cases (starts_upto units sites places n) (starts_of units (site_of sites (get_or places n 0))) a h) [
  | inl before ↦ in_starts units sites places n a (omega (arith, few)) before
  | inr here ↦ (get_or places n 0, Contains-get_or places n 0 (omega (arith, few)), here)
]

starts_in : (units : List ℕ) (sites : List Site) (places : List ℕ) (n k a : ℕ) → k < n → Contains (starts_of units (site_of sites (get_or places k 0))) a → Contains (starts_upto units sites places n) a
unfolding starts_upto
starts_in units sites places zero k a below h = absurd (omega (arith, below))
starts_in units sites places (suc n) k a below h = elim (cases_eq k n) [
  | inl e ↦ Contains-append_right (starts_upto units sites places n) (starts_of units (site_of sites (get_or places n 0))) a (subst (λ (m : ℕ). Contains (starts_of units (site_of sites (get_or places m 0))) a) e h)
  | inr other ↦ Contains-append_left (starts_upto units sites places n) (starts_of units (site_of sites (get_or places n 0))) a (starts_in units sites places n k a (omega (arith, below, other)) h)
]

-- what a unit's first instruction makes begin
in_starts_if : (units : List ℕ) (at : ℕ) (o : Option Instr) (a : ℕ) → Contains (starts_if units at o) a → Contains units a × ((option_and_then (λ i. target_of i at) o ≡ Some a) ⊎ ((passes is_control_instr o ≡ true) × (a ≡ at + 8)))
in_starts_if units at None a h = absurd (none_in_nil a h)
in_starts_if units at (Some i) a h = elim (Contains-append_cases (target_start units (target_of i at)) (past_start units (is_control_instr i) at) a h) [
  | inl t ↦ by_target (target_of i at) t
  | inr p ↦ by_control (is_control_instr i) refl p
]
  where
    by_target : (o : Option ℕ) → Contains (target_start units o) a → Contains units a × ((o ≡ Some a) ⊎ ((is_control_instr i ≡ true) × (a ≡ at + 8)))
    by_target None h = absurd (none_in_nil a h)
    by_target (Some n) h = let s = in_start_if units n a h in (s.1, inl (ap Some (sym s.0)))

    by_control : (b : Bool) → is_control_instr i ≡ b → Contains (past_start units b at) a → Contains units a × ((target_of i at ≡ Some a) ⊎ ((is_control_instr i ≡ true) × (a ≡ at + 8)))
    by_control true e h = let s = in_start_if units (at + 8) a h in (s.1, inr (e, s.0))
    by_control false e h = absurd (none_in_nil a h)

starts_if_in : (units : List ℕ) (at : ℕ) (o : Option Instr) (a : ℕ) → Contains units a → (option_and_then (λ i. target_of i at) o ≡ Some a) ⊎ ((passes is_control_instr o ≡ true) × (a ≡ at + 8)) → Contains (starts_if units at o) a
starts_if_in units at None a among (inl e) = absurd (none_some a e)
starts_if_in units at None a among (inr c) = absurd (false_true c.0)
starts_if_in units at (Some i) a among (inl e) = Contains-append_left (target_start units (target_of i at)) (past_start units (is_control_instr i) at) a (rw e (start_if_in units a among))
starts_if_in units at (Some i) a among (inr c) = Contains-append_right (target_start units (target_of i at)) (past_start units (is_control_instr i) at) a (rw c.0 (subst (λ (n : ℕ). Contains (start_if units n) a) c.1 (start_if_in units a among)))

start_is : (code : Code) (p : Places) (start : ℕ) (reached at functions : List ℕ) (g : Flow) → IsBuiltScene code p start reached at functions g → (a : ℕ) → Contains g.blocks a → IsStart code (addr p start) a
start_is code p start reached at functions g b a h = elim (in_cons a (address_at p start) (starts_upto at p.sites.items reached (length reached)) (b.built.blocks.only a h)) [
  | inl e ↦ record { reached = subst (λ (n : ℕ). Reached code (addr p start) n) e (reached_here code is_any (addr p start) (code_at code p b.scene.places start b.scene.below)); begins = inl (sym e) }
  | inr s ↦ of_site (in_starts at p.sites.items reached (length reached) a (omega arith) s)
]
  where
    of_site : (u : ℕ) × Contains reached u × Contains (starts_of at (site_of p.sites.items u)) a → IsStart code (addr p start) a
    of_site (u, among, listed) =
        let r = place_reached code p start reached at b.scene u among in
        let site : IsSite code p.addresses.items (site_of p.sites.items u) = b.scene.places.sites.each u r.0 in
        let here = b.scene.places.sites.at u r.0 in
        let s = in_starts_if at (site_of p.sites.items u).at (instr_at code (site_of p.sites.items u).at) a (subst (λ (o : Option Instr). Contains (starts_if at (site_of p.sites.items u).at o) a) (sym site.first) listed) in
        record { reached = unit_reached code p start reached at b.scene a s.0; begins = inr ((site_of p.sites.items u).at, subst (λ (n : ℕ). Reached code (addr p start) n) (sym here) r.1, s.1) }

is_start : (code : Code) (p : Places) (start : ℕ) (reached at functions : List ℕ) (g : Flow) → IsBuiltScene code p start reached at functions g → (a : ℕ) → IsStart code (addr p start) a → Contains g.blocks a
is_start code p start reached at functions g b a s = b.built.blocks.kept a (by_begins s.begins)
  where
    by_begins : (a ≡ addr p start) ⊎ ((u : ℕ) × Reached code (addr p start) u × BeginsBlock code u a) → Contains (address_at p start ∷ starts_upto at p.sites.items reached (length reached)) a
    by_begins (inl e) = subst (λ (n : ℕ). Contains (address_at p start ∷ starts_upto at p.sites.items reached (length reached)) n) (sym e) (in_head (address_at p start) (starts_upto at p.sites.items reached (length reached)))
    by_begins (inr (n, r, begins)) =
        let (u, (j, below, is_j), is) = reached_place code p start reached at b.scene n r in
        let here : get_or reached j 0 ≡ u = sym (get_or_default_zero reached j u below) ∙ is_j in
        let in_u = (place_reached code p start reached at b.scene u (j, below, is_j)).0 in
        let site : IsSite code p.addresses.items (site_of p.sites.items u) = b.scene.places.sites.each u in_u in
        let at_is : (site_of p.sites.items u).at ≡ n = b.scene.places.sites.at u in_u ∙ is in
        let listed = starts_if_in at (site_of p.sites.items u).at (instr_at code (site_of p.sites.items u).at) a (reached_unit code p start reached at b.scene a s.reached) (subst (λ (m : ℕ). BeginsBlock code m a) (sym at_is) begins) in
        in_tail a (address_at p start) (starts_upto at p.sites.items reached (length reached))
        (starts_in at p.sites.items reached (length reached) j a below (subst (λ (m : ℕ). Contains (starts_of at (site_of p.sites.items m)) a) (sym here) (subst (λ (o : Option Instr). Contains (starts_if at (site_of p.sites.items u).at o) a) site.first listed)))

-- all of it
pub graph_is : (code : Code) (p : Places) (start : ℕ) (reached at functions : List ℕ) (g : Flow) → IsBuiltScene code p start reached at functions g → AreBeside p → IsGraph code (addr p start) g × ((a : ℕ) → Contains g.blocks a → IsStart code (addr p start) a)
graph_is code p start reached at functions g b beside = (
  record {
    sound = b.clean;
    entry_is = b.built.entry;
    units_are = λ unit. (unit_is code p start reached at functions g b unit, is_unit code p start reached at functions g b unit);
    units_rise = subst IsStrictlyIncreasing (sym rising) b.scene.units.rise;
    edges_are = λ e. (edge_is code p start reached at functions g b e, is_edge code p start reached at functions g b e);
    edges_rise = b.built.edges.rise;
    functions_are = λ f. (function_is code p start reached at functions g b f, is_function code p start reached at functions g b f);
    functions_rise = subst IsStrictlyIncreasing (sym b.built.functions_are) (rising_addresses p functions beside within b.are.rise);
    function_units_beside = b.built.units_beside ∙ sym (ap (λ (l : List ℕ). length l) b.built.functions_are ∙ length-map functions (λ (k : ℕ). address_at p k));
    function_units_are = units_of code p start reached at functions g b beside;
    starts = is_start code p start reached at functions g b;
    blocks_are = λ a h. (start_is code p start reached at functions g b a h).reached;
    blocks_rise = b.built.blocks.rise;
  },
  start_is code p start reached at functions g b,
)
  where
    rising : map (λ (unit : FlowUnit). unit.at) g.units ≡ at
    rising = ap (map (λ (unit : FlowUnit). unit.at)) b.built.units ∙ units_at code p start reached at b.scene b.clean (length reached) (omega arith) ∙ ap (map (λ (k : ℕ). address_at p k)) (take_all reached (length reached) (omega arith)) ∙ sym b.scene.units.are

    within : All (λ f. f < length p.net.items) functions
    within = λ k d below. omega (arith, (reached_function code p start reached at functions b.scene b.are (get_or functions k d) (Contains-get_or functions k d below)).0, beside.addresses)

none_fault : (f : FlowFault) → None ≡ Some f → ⊥
none_fault f e = cc

same_fault : (h f : FlowFault) → Some h ≡ Some f → h ≡ f
same_fault h f e = cc

first_flow : (code : Code) (entry : ℕ) (f : FlowFault) → IsFirst code entry f → IsFlow code entry (Err f)
unfolding IsFlow
first_flow code entry (fault.Reserved a) h = h
first_flow code entry (fault.Indirect a) h = h
first_flow code entry (fault.LinkBranch a) h = h
first_flow code entry (fault.SlotControl a) h = h
first_flow code entry (fault.SlotTarget a) h = h
first_flow code entry (fault.OffCode a) h = h
first_flow code entry (fault.Recursion a) h = h
first_flow code entry fault.Deep h = h
first_flow code entry fault.Memory h = tt

ok_flow : (code : Code) (entry : ℕ) (g : Flow) → IsGraph code entry g × ((a : ℕ) → Contains g.blocks a → IsStart code entry a) → IsFlow code entry (Ok g)
unfolding IsFlow
ok_flow code entry g h = h

clean_units : (code : Code) (p : Places) (start : ℕ) (reached at : List ℕ) → IsScene code p start reached at → None ≡ first_fault_of p.sites.items reached at → NoneUpto code (addr p start) 6
clean_units code p start reached at s e = of (first_fault_of p.sites.items reached at) (sym e) (verdict code p start reached at s)
  where
    of : (o : Option FlowFault) → o ≡ None → IsVerdict code (addr p start) 6 o → NoneUpto code (addr p start) 6
    of _ e (Clean none) = none
    of _ e (Told h first) = absurd (none_fault h (sym e))

-- what comes of places whose own faults are looked for
pub told_of_units : (code : Code) (p : Places) (start : ℕ) (reached at : List ℕ) (f : FlowFault) → IsScene code p start reached at → Some f ≡ first_fault_of p.sites.items reached at → IsFlow code (addr p start) (Err f)
told_of_units code p start reached at f s e = first_flow code (addr p start) f (told (first_fault_of p.sites.items reached at) (sym e) (verdict code p start reached at s))
  where
    told : (o : Option FlowFault) → o ≡ Some f → IsVerdict code (addr p start) 6 o → IsFirst code (addr p start) f
    told _ e (Told h first) = subst (λ (x : FlowFault). IsFirst code (addr p start) x) (same_fault h f e) first
    told _ e (Clean none) = absurd (none_fault f e)

pub answered : (p : Places) (start : ℕ) (reached at : List ℕ) (r : Result Flow FlowFault) → AreBeside p → start < length p.net.items → IsReach p.net.items true start reached → AreUnits p reached at → None ≡ first_fault_of p.sites.items reached at → IsDeepOr p start reached at r → IsAnswer p start r
answered p start reached at (Ok g) beside below reach units none answer code is places = ok_flow code (addr p start) g (graph_is code p start reached at answer.0 g (record {
  scene = scene;
  clean = clean code p start reached at scene (clean_units code p start reached at scene none) answer.1.shallow;
  are = answer.1.are;
  built = answer.1.built;
}) beside)
  where
    scene : IsScene code p start reached at
    scene = record { code_is = is; places = places; below = omega (arith, below, beside.addresses); reach = reach; units = units }
answered p start reached at (Err f) beside below reach units none answer code is places =
    first_flow code (addr p start) f (deep_first code p start reached at answer.0 f scene (clean_units code p start reached at scene none) answer.1)
  where
    scene : IsScene code p start reached at
    scene = record { code_is = is; places = places; below = omega (arith, below, beside.addresses); reach = reach; units = units }

-- the same, through what is lent
pub told_answer : (p : Places) (start : ℕ) (reached reached2 at at2 : List ℕ) (net : List Exits) (sites : List Site) (f : FlowFault) → AreBeside p → start < length p.net.items → net ≡ p.net.items → IsReach net true start reached → AreUnits p reached at → sites ≡ p.sites.items → reached2 ≡ reached → at2 ≡ at → Some f ≡ first_fault_of sites reached2 at2 → IsAnswer p start (Err f)
told_answer p start reached reached2 at at2 net sites f beside below n reach units s r a e code is places =
    told_of_units code p start reached at f
    (record { code_is = is; places = places; below = omega (arith, below, beside.addresses); reach = subst (λ (l : List Exits). IsReach l true start reached) n reach; units = units })
    (e ∙ ap (λ (l : List Site). first_fault_of l reached2 at2) s ∙ ap (λ (l : List ℕ). first_fault_of p.sites.items l at2) r ∙ ap (λ (l : List ℕ). first_fault_of p.sites.items reached l) a)

pub none_answer : (p : Places) (start : ℕ) (reached reached2 reached3 at at2 at3 : List ℕ) (net : List Exits) (sites : List Site) (r : Result Flow FlowFault) → AreBeside p → start < length p.net.items → net ≡ p.net.items → IsReach net true start reached → AreUnits p reached at → sites ≡ p.sites.items → reached2 ≡ reached → at2 ≡ at → reached3 ≡ reached → at3 ≡ at → None ≡ first_fault_of sites reached2 at2 → IsDeepOr p start reached3 at3 r → IsAnswer p start r
none_answer p start reached reached2 reached3 at at2 at3 net sites r beside below n reach units s r2 a2 r3 a3 e answer =
    answered p start reached at r beside below (subst (λ (l : List Exits). IsReach l true start reached) n reach) units
    (e ∙ ap (λ (l : List Site). first_fault_of l reached2 at2) s ∙ ap (λ (l : List ℕ). first_fault_of p.sites.items l at2) r2 ∙ ap (λ (l : List ℕ). first_fault_of p.sites.items reached l) a2)
    (subst (λ (l : List ℕ). IsDeepOr p start l at r) r3 (subst (λ (l : List ℕ). IsDeepOr p start reached3 l r) a3 answer))
