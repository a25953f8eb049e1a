-- What is found is the cost of some walk, up to the cap; and so there is one such number.
use Rattle.std.proofs.Common.{◌≡◌, refl, sym, ap, subst, ◌∙◌, ℕ, zero, suc, ◌+◌, ◌-◌, ◌<◌, ◌≤◌, min, Bool, true, false, List, [], ◌∷◌, map, length, get_or, arith, ◌⊎◌, inl, inr, Option, Some, None, eq-eqb}
use Rattle.std.specs.Prelude.{◌==◌, if◌then◌else◌, slice_index}
use Rattle.std.specs.List.{All, Contains}
use Rattle.std.proofs.lemmas.Bool.{cases_lt, eqb-true}
use Rattle.std.proofs.lemmas.List.Elements.{All-contains}
use Rattle.mips_isa.specs.Kinds.{kind_of}
use Rattle.mips_isa.specs.declared.instr.Kind.{Kind}
use Rattle.mips_isa.specs.declared.instr.Kind.TheVariants as kind
use Rattle.visa_io.specs.declared.records.Region.{Region}
use Rattle.flow_graph.specs.Flow.{Flow}
use Rattle.flow_graph.specs.declared.parts.Edge.{Edge}
use Rattle.flow_graph.specs.declared.parts.EdgeKind.{EdgeKind}
use Rattle.flow_graph.specs.declared.parts.EdgeKind.TheVariants.{Next, Taken, Call, Return, Over}
use Rattle.flow_graph.specs.declared.parts.Unit.{Unit as FlowUnit}
use Rattle.loop_regions.specs.Costs.{Prices, unit_cost, walk_cost}
use Rattle.loop_regions.specs.Nested.{IsNest, IsWhole, Numbered}
use Rattle.loop_regions.specs.Walks.{IsWalk, Meets, alone, holds}
use Rattle.loop_regions.specs.Ways.{IsWay, addresses_of}
use Rattle.loop_regions.specs.declared.ways.Way.{Way}
use Rattle.loop_regions.proofs.FreeWays.{edge_of_way, one_number}
use Rattle.loop_regions.proofs.Visits.{other_number, visits_header}
use Rattle.path_wcet.specs.declared.ahead.Aim.TheVariants as aim
use Rattle.path_wcet.specs.declared.costs.Costs.{Costs}
use Rattle.path_wcet.specs.Known.{Table, entry, entry_at, is_this, joined, lap, read}
use Rattle.path_wcet.specs.Longest.{AreCalls, AreCounted, IsAttained, IsBound, IsCost, IsCostInside, IsCostInto, IsInto, IsLast, IsLongest, IsMissed, IsPriced, IsPricedExactly, IsTableOf, graph_with}
use Rattle.path_wcet.specs.Paid.{cap, cost}
use Rattle.path_wcet.specs.Paths.{plain_amount}
use Rattle.path_wcet.specs.Paths.Goal.{To, Laps}
use Rattle.path_wcet.specs.Settled.{AreStops, IsFound, or_zero}
use Rattle.path_wcet.specs.Static.{unit_price}
use Rattle.path_wcet.specs.Tables.{edge_entry, first_entry, return_entry, unit_entry}
use Rattle.path_wcet.proofs.Complete.{read_far}
use Rattle.path_wcet.proofs.Ends.{leaves}
use Rattle.path_wcet.proofs.Join.{into_is, price, price_at, rises, unit_at, walk_is, weighed}
use Rattle.path_wcet.proofs.Most.{ways_back}
use Rattle.path_wcet.proofs.Nests.{held_header, holds_all, holds_one, one_region}
use Rattle.path_wcet.proofs.Reach.{lap_reached, no_bool, no_some, read_reached, some_is}
use Rattle.path_wcet.proofs.Realized.{IsEnd, IsGround, realize}
use Rattle.path_wcet.proofs.Runs.{AreOff, IsStopping, first_allowed, stop_on}

pub priced_exactly : (g : Flow) (costs : Costs) (p : Prices) (charged is_long : ℕ → Bool) → IsPricedExactly g costs p charged is_long → IsPriced g costs p charged is_long
priced_exactly g costs p charged is_long exact = record { units = λ unit c. let e = exact.units unit c in omega (arith, e); edges = λ e c. let h = exact.edges e c in omega (arith, h) }

-- an entry that is there is that of a unit
entry_inside : (xs : List (Option ℕ)) (u x : ℕ) → entry_at xs u ≡ Some x → u < length xs
entry_inside [] u x is = no_some x is
entry_inside (o ∷ os) zero x is = omega arith
entry_inside (o ∷ os) (suc u) x is = let h = entry_inside os u x is in omega (arith, h)

map_length : (f : FlowUnit → Option ℕ) (us : List FlowUnit) → length (map f us) ≡ length (addresses_of us)
map_length f [] = refl
map_length f (v ∷ us) = let h = map_length f us in omega (arith, h)

first_cases : (to : Option ℕ) (v : FlowUnit) (x : ℕ) → first_entry to v ≡ Some x → (x ≡ 0) × (is_this to v.at ≡ false) × (kind_of v.first ≡ kind.Return)
first_cases to v x is = by_stop (is_this to v.at) refl (kind_of v.first) refl is
  where
    by_stop : (b : Bool) → is_this to v.at ≡ b → (k : Kind) → kind_of v.first ≡ k → (if b then None else return_entry k) ≡ Some x → (x ≡ 0) × (is_this to v.at ≡ false) × (kind_of v.first ≡ kind.Return)
    by_stop true at k of e = no_some x e
    by_stop false at kind.Return of e = (sym (some_is 0 x e), at, of)
    by_stop false at k of e = no_some x e

pub ends_at : (g : Flow) (n : Numbered) (costs : Costs) (to : Option ℕ) (t : Table) → IsNest g n → IsTableOf g n costs to t → (u x : ℕ) → entry_at t.ends u ≡ Some x → (x ≡ 0) × (u < length n.addresses) × IsEnd g to (slice_index n.addresses u)
ends_at g n costs to t nest table u x is =
    let there : entry_at (map (first_entry to) g.units) u ≡ Some x = ap (λ (l : List (Option ℕ)). entry_at l u) (sym table.ends) ∙ is in
    let inside : u < length (addresses_of g.units) = (let h = entry_inside (map (first_entry to) g.units) u x there in let e = map_length (first_entry to) g.units in omega (arith, h, e)) in
    let v = unit_at g.units u inside in
    let f = first_cases to v.unit x (sym (ap joined (v.entry (first_entry to))) ∙ there) in
    let same = nest.numbered.addresses_are in
    let at : slice_index n.addresses u ≡ v.unit.at = ap (λ (l : List ℕ). slice_index l u) same ∙ v.number (λ w. w.at) in (
      f.0,
      (let l = ap length same in omega (arith, l, inside)),
      record { unit = v.unit; among = v.among; at = sym at; returns = f.2; off = ap (is_this to) at ∙ f.1 },
    )

-- where walks stop no way leads on
was_last : (n : Numbered) → Rattle.std.specs.List.Sorted.IsStrictlyIncreasing n.addresses → (to last : Option ℕ) → IsLast n.addresses to last → (k a : ℕ) → k < length n.addresses → slice_index n.addresses k ≡ a → is_this last k ≡ false → is_this to a ≡ false
was_last n rise None last is k a inside at off = refl
was_last n rise (Some b) last (j, is, within, there) k a inside at off =
    other_number a b (λ same. let one = one_number n.addresses rise k j inside within (at ∙ same ∙ sym there) in no_bool (sym (ap (λ (o : Option ℕ). is_this o k) is ∙ eq-eqb k j one) ∙ off))

-- a unit costs at least what its table says, and an edge
unit_exact : (g : Flow) (n : Numbered) (costs : Costs) (to : Option ℕ) (t : Table) → IsNest g n → IsTableOf g n costs to t → (p : Prices) (charged is_long : ℕ → Bool) → IsPricedExactly g costs p charged is_long
    → (k a : ℕ) → k < length n.addresses → slice_index n.addresses k ≡ a → read t.units k ≤ weighed p charged is_long to a
unit_exact g n costs to t nest table p charged is_long exact k a inside at =
    let same = nest.numbered.addresses_are in
    let u = unit_at g.units k (subst (λ (l : List ℕ). k < length l) same inside) in
    let here : u.unit.at ≡ a = sym (u.number (λ unit. unit.at)) ∙ ap (λ (l : List ℕ). slice_index l k) (sym same) ∙ at in
    let entry : slice_index t.units k ≡ unit_entry costs to u.unit = ap (λ (l : List ℕ). slice_index l k) table.units ∙ u.number (unit_entry costs to) in
    subst (λ v. read t.units k ≤ weighed p charged is_long to v) here
    (by_case (is_this to u.unit.at) (unit_cost p charged (is_long u.unit.at) u.unit.at) (unit_price u.unit costs) (slice_index t.units k) (exact.units u.unit u.among) entry)
  where
    by_case : (b : Bool) (c v m : ℕ) → c ≡ v → m ≡ (if b then 0 else min cap v) → min cap m ≤ (let q : ℕ = (if b then 0 else c) in q)
    by_case true c v m is e = omega (arith, e)
    by_case false c v m is e = omega (arith, is, e)

edge_exact : (g : Flow) (n : Numbered) (costs : Costs) → IsWhole g → IsNest g n → (p : Prices) (charged is_long : ℕ → Bool) → IsPricedExactly g costs p charged is_long → (e : Edge) → Contains g.edges e → (k : ℕ) → k < length n.addresses → slice_index n.addresses k ≡ e.from
    → p.edge e ≡ slice_index (map (edge_entry e.kind) g.units) k
edge_exact g n costs whole nest p charged is_long exact e c k inside at =
    let same = nest.numbered.addresses_are in
    let rise = rises g n whole nest in
    let there = price_at g.units k e.from e.kind (subst (λ (l : List ℕ). k < length l) same inside) (ap (λ (l : List ℕ). slice_index l k) (sym same) ∙ at)
    (λ j less is. let one = one_number n.addresses rise j k (omega (arith, less, inside)) inside (ap (λ (l : List ℕ). slice_index l j) same ∙ is ∙ sym at) in omega (arith, one, less)) in
    exact.edges e c ∙ there

-- the number of a unit
number_of_unit : (g : Flow) (n : Numbered) → IsNest g n → (unit : FlowUnit) → Contains g.units unit → (k : ℕ) × (k < length n.addresses) × (slice_index n.addresses k ≡ unit.at)
number_of_unit g n nest unit c =
    let same = nest.numbered.addresses_are in
    let there = Rattle.loop_regions.proofs.FreeWays.mapped (λ (v : FlowUnit). v.at) g.units unit c in
    (there.0, (let l = ap length same in let h = there.1 in omega (arith, l, h)), ap (λ (l : List ℕ). slice_index l there.0) same ∙ at_number (addresses_of g.units) there.0 unit.at there.1 there.2)
  where
    at_number : (xs : List ℕ) (k d : ℕ) → k < length xs → get_or xs k d ≡ d → slice_index xs k ≡ d
    at_number xs k d inside is = Rattle.std.proofs.lemmas.List.get_or_default xs k 0 d inside ∙ is

-- all that paths stand on
pub ground_of : (g : Flow) (n : Numbered) (costs : Costs) (to : Option ℕ) (t : Table) → IsWhole g → AreCalls g → IsNest g n → IsTableOf g n costs to t → AreCounted n.regions → (p : Prices) (charged is_long : ℕ → Bool) → IsPricedExactly g costs p charged is_long
    → IsGround g n t to (price p charged is_long to)
ground_of g n costs to t whole calls nest table counted p charged is_long exact = record {
  calls = calls;
  edges = edges;
  ways = ways;
  behind = ways_back g n nest;
  last = λ w c off. was_last n (rises g n whole nest) to t.last table.last w.from w.edge.from (ways w c).leaves_in (ways w c).leaves off;
  plain = λ w c k is. plain w c w.edge.kind refl k is;
  call = λ c among called f inside at. let u = unit_exact g n costs to t nest table p charged is_long exact f c.to inside at in omega (arith, u);
  back = λ b among returns u inside at.
      let v = unit_exact g n costs to t nest table p charged is_long exact u b.to inside at in
      let two = return_two b among returns in
      omega (arith, v, two);
  ends = λ u x is. let e = ends_at g n costs to t nest table u x is in (e.0, e.2);
  counted = λ r c. All-contains (λ (x : Region). 1 ≤ x.count) n.regions r counted c;
  header = held_header g n.regions nest.nested;
  unique = one_region g n.regions nest.nested;
  inside = holds_all g n.regions nest.nested calls;
  outer = holds_one g n.regions nest.nested calls;
}
  where
    edges : (w : Way) → Contains n.ways w → Contains g.edges w.edge × (Rattle.flow_graph.specs.Reached.is_inner w.edge.kind ≡ true)
    edges w c = edge_of_way g.edges n.addresses n.regions n.ways nest.numbered.ways_are w c

    ways : (w : Way) → Contains n.ways w → IsWay n.addresses g.edges n.regions w
    ways w c = All-contains (IsWay n.addresses g.edges n.regions) n.ways w nest.numbered.ways_are.each c

    plain : (w : Way) → Contains n.ways w → (q : EdgeKind) → w.edge.kind ≡ q → (k : ℕ) → plain_amount t w q ≡ Some k → k ≤ price p charged is_long to w.edge
    plain w c Next at k is =
        let u = unit_exact g n costs to t nest table p charged is_long exact w.to w.edge.to (ways w c).enters_in (ways w c).enters in
        let e = edge_exact g n costs whole nest p charged is_long exact w.edge (edges w c).0 w.from (ways w c).leaves_in (ways w c).leaves in
        let l = ap (λ (xs : List ℕ). slice_index xs w.from) table.next in
        let d = ap (λ (x : EdgeKind). slice_index (map (edge_entry x) g.units) w.from) at in
        let s = some_is (read t.next w.from + read t.units w.to) k is in
        omega (arith, u, e, l, d, s)
    plain w c Taken at k is =
        let u = unit_exact g n costs to t nest table p charged is_long exact w.to w.edge.to (ways w c).enters_in (ways w c).enters in
        let e = edge_exact g n costs whole nest p charged is_long exact w.edge (edges w c).0 w.from (ways w c).leaves_in (ways w c).leaves in
        let l = ap (λ (xs : List ℕ). slice_index xs w.from) table.taken in
        let d = ap (λ (x : EdgeKind). slice_index (map (edge_entry x) g.units) w.from) at in
        let s = some_is (read t.taken w.from + read t.units w.to) k is in
        omega (arith, u, e, l, d, s)
    plain w c Call at k is = no_some k is
    plain w c Return at k is = no_some k is
    plain w c Over at k is = no_some k is

    return_two : (b : Edge) → Contains g.edges b → b.kind ≡ Return → p.edge b ≡ 2
    return_two b among returns =
        let r = calls.returns b among returns in
        let k = number_of_unit g n nest r.0 r.1 in
        let v = unit_at g.units k.0 (subst (λ (l : List ℕ). k.0 < length l) nest.numbered.addresses_are k.1) in
        edge_exact g n costs whole nest p charged is_long exact b among k.0 k.1 (k.2 ∙ r.2) ∙ ap (λ (x : EdgeKind). slice_index (map (edge_entry x) g.units) k.0) returns ∙ v.number (edge_entry Return)

-- a walk that leaves no unit where walks stop doesn't come there, but with its newest edge
older_missed : (g : Flow) (n : Numbered) (is_long : ℕ → Bool) (to : Option ℕ) (from : ℕ) → is_this to from ≡ false → (e : Edge) (es : List Edge) → IsWalk (graph_with g n is_long) (alone from) (e ∷ es) → AreOff to (e ∷ es) → IsMissed to es
older_missed g n is_long None from other e es walk off = tt
older_missed g n is_long (Some a) from other e [] walk off = λ m. m
older_missed g n is_long (Some a) from other e (d ∷ ds) walk off = by_meets (older_missed g n is_long (Some a) from other d ds walk.0 off.0)
  where
    by_meets : (Meets a ds → ⊥) → (d.to ≡ a) ⊎ Meets a ds → ⊥
    by_meets older (inl is) = no_bool (sym (ap (λ v. v == a) (leaves (graph_with g n is_long) from e (d ∷ ds) walk) ∙ eq-eqb d.to a is) ∙ off.1)
    by_meets older (inr m) = older m

-- how it ends
record IsEndingInto (to : Option ℕ) (es : List Edge) : Type 0 where
  newest : Edge
  older : List Edge
  is : es ≡ newest ∷ older
  missed : IsMissed to older
  into : IsInto to newest

ending : (g : Flow) (n : Numbered) (is_long : ℕ → Bool) (to : Option ℕ) (from : ℕ) → is_this to from ≡ false → (es : List Edge) → IsWalk (graph_with g n is_long) (alone from) es → AreOff to es → IsMissed to es ⊎ IsEndingInto to es
ending g n is_long None from other es walk off = inl tt
ending g n is_long (Some a) from other [] walk off = inl (λ m. m)
ending g n is_long (Some a) from other (e ∷ es) walk off = by_test (e.to == a) refl (older_missed g n is_long (Some a) from other e es walk off)
  where
    by_test : (b : Bool) → (e.to == a) ≡ b → (Meets a es → ⊥) → ((e.to ≡ a) ⊎ Meets a es → ⊥) ⊎ IsEndingInto (Some a) (e ∷ es)
    by_test true is older = inr (record { newest = e; older = es; is = refl; missed = older; into = eqb-true e.to a is })
    by_test false is older = inl (λ m. elim m [ inl at ↦ no_bool (sym (eq-eqb e.to a at) ∙ is) | inr more ↦ older more ])

-- the number that comes out is what some walk costs, up to the cap
pub attained_is : (g : Flow) (n : Numbered) (costs : Costs) (from : ℕ) (to : Option ℕ) (t : Table) (turns : List ℕ) (rets stops : List (Option ℕ)) → IsWhole g → AreCalls g → IsNest g n → IsTableOf g n costs to t → AreCounted n.regions → IsFound t n turns rets → AreStops t n turns rets stops → is_this to from ≡ false
    → (k : ℕ) → k < length n.addresses → slice_index n.addresses k ≡ from → (most : ℕ) → most ≡ min cap (read t.units k + lap t turns k + or_zero (entry 0 stops k)) → IsBound g n costs from to most → IsAttained g n costs from to most
attained_is g n costs from to t turns rets stops whole calls nest table counted found stopped other k inside at most is bound p charged is_long exact = by_end (ending g n is_long to from other total.edges (total.walk []) total.off)
  where
    ground : IsGround g n t to (price p charged is_long to)
    ground = ground_of g n costs to t whole calls nest table counted p charged is_long exact

    total : IsStopping (graph_with g n is_long) (price p charged is_long to) to (from ∷ []) (lap t turns k + or_zero (entry 0 stops k))
    total =
        let l = lap_reached t n turns rets found.known k in
        let f = read_far 0 stops k 0 (record { above = omega arith; far = subst (λ u. Rattle.path_wcet.specs.Known.IsFar (entry_at stops u) 0) (let e : k ≡ k - 0 = omega arith in e) (stopped.there k inside) }) in
        let s = read_reached t n aim.Stop 0 stops (stopped.reached found.known) k f.0 f.1 in
        let allowed = first_allowed n.regions ground.counted from in
        let one = realize g n t is_long to (price p charged is_long to) ground Laps k l.cost l.path (from ∷ []) (sym at) allowed
        (λ r c header. let h = visits_header r from [] (subst (λ v. holds r v ≡ true) (sym (sym at ∙ header)) (ground.header r c)) (sym at ∙ header) in omega (arith, h)) in
        let two = realize g n t is_long to (price p charged is_long to) ground (To aim.Stop) k s.cost s.path one.units one.newest one.allowed in
        let x = l.most in
        let y = s.most in
        let e = ap or_zero f.1 in
        stop_on (graph_with g n is_long) (price p charged is_long to) to (from ∷ []) one.units l.cost s.cost (lap t turns k + or_zero (entry 0 stops k)) (omega (arith, x, y, e)) one.run two

    first : read t.units k ≤ unit_cost p charged (is_long from) from
    first =
        let u = unit_exact g n costs to t nest table p charged is_long exact k from inside at in
        let w = Rattle.path_wcet.proofs.Join.weighed_off p charged is_long to from other in
        omega (arith, u, w)

    enough : most ≤ min cap (unit_cost p charged (is_long from) from + cost (price p charged is_long to) total.edges)
    enough = let h = total.most in omega (arith, h, first, is)

    same : (c : ℕ) → c ≡ unit_cost p charged (is_long from) from + cost (price p charged is_long to) total.edges → (most < cap → c ≤ most) → most ≡ min cap c
    same c sum small = elim (cases_lt most cap) [ inl low ↦ let h = small low in omega (arith, h, sum, enough) | inr high ↦ omega (arith, high, sum, enough, is) ]

    by_end : IsMissed to total.edges ⊎ IsEndingInto to total.edges → IsCost p charged (graph_with g n is_long) from to most
    by_end (inl missed) =
        let c = walk_is g n p charged is_long to from total.edges missed in
        record {
          cost = walk_cost p charged (graph_with g n is_long) from total.edges;
          walks = inl (record { edges = total.edges; walk = total.walk []; missed = missed; is = refl });
          is = same (walk_cost p charged (graph_with g n is_long) from total.edges) c (λ low. (bound p charged is_long (priced_exactly g costs p charged is_long exact) low).inside total.edges (total.walk []) missed);
        }
    by_end (inr x) =
        let walk : IsWalk (graph_with g n is_long) (alone from) (x.newest ∷ x.older) = subst (λ (es : List Edge). IsWalk (graph_with g n is_long) (alone from) es) x.is (total.walk []) in
        let c = walk_is g n p charged is_long to from x.older x.missed in
        let z = into_is p charged is_long to x.newest x.into in
        let e = ap (λ (es : List Edge). cost (price p charged is_long to) es) x.is in
        record {
          cost = p.edge x.newest + walk_cost p charged (graph_with g n is_long) from x.older;
          walks = inr (record { newest = x.newest; edges = x.older; walk = walk; missed = x.missed; into = x.into; is = refl });
          is = same (p.edge x.newest + walk_cost p charged (graph_with g n is_long) from x.older) (omega (arith, c, z, e)) (λ low. (bound p charged is_long (priced_exactly g costs p charged is_long exact) low).into x.newest x.older walk x.missed x.into);
        }

-- there is one such number
no_more : (g : Flow) (n : Numbered) (costs : Costs) (from : ℕ) (to : Option ℕ) (a b : ℕ) (p : Prices) (charged is_long : ℕ → Bool) → IsPricedExactly g costs p charged is_long → IsLongest g n costs from to a → IsLongest g n costs from to b → a ≤ b
no_more g n costs from to a b p charged is_long exact one two = by_walk x.walks
  where
    x : IsCost p charged (graph_with g n is_long) from to a
    x = one.attained p charged is_long exact

    y : IsCost p charged (graph_with g n is_long) from to b
    y = two.attained p charged is_long exact

    close : (b < cap → x.cost ≤ b) → a ≤ b
    close small = let e = x.is in let f = y.is in elim (cases_lt b cap) [ inl low ↦ let h = small low in omega (arith, e, h) | inr high ↦ omega (arith, e, high) ]

    by_walk : IsCostInside p charged (graph_with g n is_long) from to x.cost ⊎ IsCostInto p charged (graph_with g n is_long) from to x.cost → a ≤ b
    by_walk (inl w) = close (λ low. let h = (two.bound p charged is_long (priced_exactly g costs p charged is_long exact) low).inside w.edges w.walk w.missed in let e = w.is in omega (arith, h, e))
    by_walk (inr w) = close (λ low. let h = (two.bound p charged is_long (priced_exactly g costs p charged is_long exact) low).into w.newest w.edges w.walk w.missed w.into in let e = w.is in omega (arith, h, e))

pub one_longest : (g : Flow) (n : Numbered) (costs : Costs) (from : ℕ) (to : Option ℕ) (a b : ℕ) (p : Prices) (charged is_long : ℕ → Bool) → IsPricedExactly g costs p charged is_long → IsLongest g n costs from to a → IsLongest g n costs from to b → a ≡ b
one_longest g n costs from to a b p charged is_long exact one two =
    let h = no_more g n costs from to a b p charged is_long exact one two in
    let k = no_more g n costs from to b a p charged is_long exact two one in
    omega (arith, h, k)
