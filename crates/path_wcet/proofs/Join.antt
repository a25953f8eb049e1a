-- What is found of a graph's units is the greatest cost of its walks.
use Rattle.std.proofs.Common.{◌≡◌, ◌≢◌, refl, sym, ap, subst, ◌∙◌, ℕ, zero, suc, ◌+◌, ◌<◌, ◌≤◌, min, Bool, true, false, List, [], ◌∷◌, map, length, get_or, arith, ◌⊎◌, inl, inr, Option, Some, None, eq-eqb}
use Rattle.std.specs.Prelude.{◌==◌, ◌&&◌, if◌then◌else◌, slice_index, slice_get}
use Rattle.std.specs.List.{Contains}
use Rattle.std.specs.List.Sorted.{IsStrictlyIncreasing}
use Rattle.std.proofs.lemmas.List.Folds.{list_any_at}
use Rattle.std.proofs.lemmas.List.Elements.{All-contains, Contains-append_right}
use Rattle.mips_isa.specs.Kinds.{kind_of}
use Rattle.mips_isa.specs.declared.instr.Instr.{Instr}
use Rattle.mips_isa.specs.declared.instr.Kind.{Kind}
use Rattle.mips_isa.specs.declared.instr.Kind.TheVariants as kind
use Rattle.visa_io.specs.declared.records.Region.{Region}
use Rattle.flow_graph.specs.Edges.{edge_of}
use Rattle.flow_graph.specs.Flow.{Flow}
use Rattle.flow_graph.specs.Reached.{is_inner}
use Rattle.flow_graph.specs.declared.parts.Edge.{Edge}
use Rattle.flow_graph.specs.declared.parts.EdgeKind.{EdgeKind}
use Rattle.flow_graph.specs.declared.parts.EdgeKind.TheVariants.{Next, Taken, Call, Return, Over}
use Rattle.flow_graph.specs.declared.parts.Unit.{Unit as FlowUnit}
use Rattle.loop_regions.specs.Costs.{Prices, unit_cost, walk_cost}
use Rattle.loop_regions.specs.Nested.{IsNest, IsWhole, Numbered}
use Rattle.loop_regions.specs.Regions.{is_back}
use Rattle.loop_regions.specs.Walks.{holds}
use Rattle.loop_regions.specs.Ways.{IsCalleeOf, IsWay, addresses_of}
use Rattle.loop_regions.specs.declared.ways.Way.{Way}
use Rattle.loop_regions.proofs.FreeWays.{one_number, way_of_edge}
use Rattle.loop_regions.proofs.Visits.{other_number}
use Rattle.path_wcet.specs.declared.costs.Costs.{Costs}
use Rattle.path_wcet.specs.Known.{Table, called_by, entry, entry_at, is_this, lap, limit, read}
use Rattle.path_wcet.specs.Longest.{AreCalls, IsInto, IsLast, IsMissed, IsPriced, IsTableOf, graph_with}
use Rattle.path_wcet.specs.Paid.{IsPlain, cap, cost}
use Rattle.path_wcet.specs.Paths.{Path, plain_amount}
use Rattle.path_wcet.specs.Paths.Goal.{Along}
use Rattle.path_wcet.specs.Paths.Path.{Direct}
use Rattle.path_wcet.specs.Static.{branch_price, differs, first_at, price_by, price_of, unit_price}
use Rattle.mips_isa.specs.Prediction.{predicted_taken_of}
use Rattle.path_wcet.proofs.Small.{IsSmall}
use Rattle.path_wcet.specs.Tables.{edge_entry, first_entry, return_entry, unit_entry}

-- the unit of a number
pub record IsUnitAt (units : List FlowUnit) (k : ℕ) : Type 0 where
  pub unit : FlowUnit
  pub among : Contains units unit
  pub number : (f : FlowUnit → ℕ) → slice_index (map f units) k ≡ f unit
  pub entry : (f : FlowUnit → Option ℕ) → slice_get (map f units) k ≡ Some (f unit)
  pub is : (d : FlowUnit) → get_or units k d ≡ unit

pub unit_at : (units : List FlowUnit) (k : ℕ) → k < length (addresses_of units) → IsUnitAt units k
unit_at [] k inside = absurd (omega arith)
unit_at (u ∷ units) zero inside = record { unit = u; among = (0, omega arith, refl); number = λ f. refl; entry = λ f. refl; is = λ d. refl }
unit_at (u ∷ units) (suc k) inside =
    let r = unit_at units k (omega arith) in
    record { unit = r.unit; among = Contains-append_right (u ∷ []) units r.unit r.among; number = r.number; entry = r.entry; is = r.is }

-- of an edge from a unit, the price by the instruction with which it begins
pub price_at : (units : List FlowUnit) (k a : ℕ) (kd : EdgeKind) → k < length (addresses_of units) → slice_index (addresses_of units) k ≡ a → ((j : ℕ) → j < k → slice_index (addresses_of units) j ≢ a)
    → price_by kd (first_at units a) ≡ slice_index (map (edge_entry kd) units) k
price_at [] k a kd inside at before = absurd (omega arith)
price_at (u ∷ units) zero a kd inside at before = ap (λ (b : Bool). price_by kd (if b then Some u.first else first_at units a)) (eq-eqb u.at a at)
price_at (u ∷ units) (suc k) a kd inside at before =
    ap (λ (b : Bool). price_by kd (if b then Some u.first else first_at units a)) (other_number u.at a (before 0 (omega arith)))
    ∙ price_at units k a kd (omega arith) at (λ j less. before (suc j) (omega arith))

-- the cost of a unit; nothing where walks stop
abbrev pub weighed : Prices → (ℕ → Bool) → (ℕ → Bool) → Option ℕ → ℕ → ℕ
weighed p charged is_long to u = if is_this to u then 0 else unit_cost p charged (is_long u) u

abbrev pub price : Prices → (ℕ → Bool) → (ℕ → Bool) → Option ℕ → Edge → ℕ
price p charged is_long to e = p.edge e + weighed p charged is_long to e.to

abbrev pub back_price : Prices → (ℕ → Bool) → (ℕ → Bool) → Option ℕ → ℕ → ℕ
back_price p charged is_long to u = 2 + weighed p charged is_long to u

pub rises : (g : Flow) (n : Numbered) → IsWhole g → IsNest g n → IsStrictlyIncreasing n.addresses
rises g n whole nest = subst IsStrictlyIncreasing (sym nest.numbered.addresses_are) whole.units

-- a unit's cost is at most what its table says
weighed_case : (b : Bool) (c u m : ℕ) → c ≤ u → u ≤ cap → m ≡ (if b then 0 else min cap u) → (let k : ℕ = (if b then 0 else c) in k) ≤ min cap m
weighed_case true c u m le small is = omega (arith, is)
weighed_case false c u m le small is = omega (arith, le, small, is)

pub unit_known : (g : Flow) (n : Numbered) (costs : Costs) (to : Option ℕ) (t : Table) → IsNest g n → IsTableOf g n costs to t → IsSmall g costs → (p : Prices) (charged is_long : ℕ → Bool) → IsPriced g costs p charged is_long
    → (k a : ℕ) → k < length n.addresses → slice_index n.addresses k ≡ a → weighed p charged is_long to a ≤ read t.units k
unit_known g n costs to t nest table small p charged is_long priced k a inside at =
    let same = nest.numbered.addresses_are in
    let u = unit_at g.units k (subst (λ (l : List ℕ). k < length l) same inside) in
    let here : u.unit.at ≡ a = sym (u.number (λ unit. unit.at)) ∙ ap (λ (l : List ℕ). slice_index l k) (sym same) ∙ at in
    let entry : slice_index t.units k ≡ unit_entry costs to u.unit = ap (λ (l : List ℕ). slice_index l k) table.units ∙ u.number (unit_entry costs to) in
    let most = priced.units u.unit u.among in
    subst (λ v. weighed p charged is_long to v ≤ read t.units k) here
    (weighed_case (is_this to u.unit.at) (unit_cost p charged (is_long u.unit.at) u.unit.at) (unit_price u.unit costs) (slice_index t.units k) most (small u.unit u.among) entry)

-- where walks stop
pub not_last : (n : Numbered) → IsStrictlyIncreasing n.addresses → (to last : Option ℕ) → IsLast n.addresses to last → (k a : ℕ) → k < length n.addresses → slice_index n.addresses k ≡ a → is_this to a ≡ false → is_this last k ≡ false
not_last n rise None last is k a inside at off = ap (λ (o : Option ℕ). is_this o k) is
not_last n rise (Some b) last (j, is, within, there) k a inside at off =
    ap (λ (o : Option ℕ). is_this o k) is ∙ other_number k j (λ same. let bad : true ≡ false = sym (eq-eqb a b (sym at ∙ ap (slice_index n.addresses) same ∙ there)) ∙ off in absurd (let b : ⊥ = cc in b))

pub back_is : (rs : List Region) (e : Edge) (r : Region) → Contains rs r → e.to ≡ r.header → holds r e.from ≡ true → is_back rs e ≡ true
back_is rs e r c to within = list_any_at (λ x. (e.to == x.header) && holds x e.from) rs c.0 r c.1
    (ap (λ (x : Region). (e.to == x.header) && holds x e.from) c.2 ∙ both (e.to == r.header) (holds r e.from) (eq-eqb e.to r.header to) within)
  where
    both : (p q : Bool) → p ≡ true → q ≡ true → (p && q) ≡ true
    both true q a b = b
    both false q a b = a

-- an edge's price is at most what the table says of its first unit
pub edge_known : (g : Flow) (n : Numbered) (costs : Costs) → IsWhole g → IsNest g n → (p : Prices) (charged is_long : ℕ → Bool) → IsPriced g costs p charged is_long → (e : Edge) → Contains g.edges e → (k : ℕ) → k < length n.addresses → slice_index n.addresses k ≡ e.from
    → p.edge e ≤ slice_index (map (edge_entry e.kind) g.units) k
edge_known g n costs whole nest p charged is_long priced e c k inside at =
    let same = nest.numbered.addresses_are in
    let rise = rises g n whole nest in
    let there = price_at g.units k e.from e.kind (subst (λ (l : List ℕ). k < length l) same inside) (ap (λ (l : List ℕ). slice_index l k) (sym same) ∙ at)
    (λ j less is. let one = one_number n.addresses rise j k (omega (arith, less, inside)) inside (ap (λ (l : List ℕ). slice_index l j) same ∙ is ∙ sym at) in omega (arith, one, less)) in
    let h = priced.edges e c in
    omega (arith, h, there)

plain_two : (k : EdgeKind) → IsPlain k → (k ≡ Next) ⊎ (k ≡ Taken)
plain_two Next plain = inl refl
plain_two Taken plain = inr refl
plain_two Call plain = absurd plain
plain_two Return plain = absurd plain
plain_two Over plain = absurd plain

plain_inner : (k : EdgeKind) → IsPlain k → is_inner k ≡ true
plain_inner Next p = refl
plain_inner Taken p = refl
plain_inner Call p = absurd p
plain_inner Return p = absurd p
plain_inner Over p = absurd p

-- a branch costs two cycles at most
branch_small : (q : Kind) (b : Bool) → branch_price q b ≤ 2
branch_small kind.Branch true = omega arith
branch_small kind.Branch false = omega arith
branch_small q b = omega arith

small_price : (k : EdgeKind) (i : Instr) → price_of k i ≤ 2
small_price Next i = branch_small (kind_of i) (differs (predicted_taken_of i) false)
small_price Taken i = branch_small (kind_of i) (differs (predicted_taken_of i) true)
small_price Call i = omega arith
small_price Return i = omega arith
small_price Over i = omega arith

small_entry : (units : List FlowUnit) (k : EdgeKind) (u : ℕ) → slice_index (map (edge_entry k) units) u ≤ 2
small_entry [] k u = omega arith
small_entry (v ∷ units) k zero = small_price k v.first
small_entry (v ∷ units) k (suc u) = small_entry units k u

-- the path along a plain edge, and that it is enough
pub record IsEnough (t : Table) (n : Numbered) (w : Way) (price : ℕ) : Type 0 where
  pub cost : ℕ
  pub path : Path t n (Along w) w.from cost
  pub enough : price ≤ cost

pub plain_enough : (g : Flow) (n : Numbered) (costs : Costs) (to : Option ℕ) (t : Table) → IsWhole g → IsNest g n → IsTableOf g n costs to t → IsSmall g costs → (p : Prices) (charged is_long : ℕ → Bool) → IsPriced g costs p charged is_long
    → (e : Edge) → Contains g.edges e → IsPlain e.kind → is_this to e.from ≡ false → (w : Way) → w.edge ≡ e → IsWay n.addresses g.edges n.regions w → IsEnough t n w (price p charged is_long to e)
plain_enough g n costs to t whole nest table small p charged is_long priced e c plain off w edge is = by_kind (plain_two e.kind plain)
  where
    leaves : slice_index n.addresses w.from ≡ e.from
    leaves = is.leaves ∙ ap (λ (x : Edge). x.from) edge

    enters : slice_index n.addresses w.to ≡ e.to
    enters = is.enters ∙ ap (λ (x : Edge). x.to) edge

    last : is_this t.last w.from ≡ false
    last = not_last n (rises g n whole nest) to t.last table.last w.from e.from is.leaves_in leaves off

    unit : weighed p charged is_long to e.to ≤ read t.units w.to
    unit = unit_known g n costs to t nest table small p charged is_long priced w.to e.to is.enters_in enters

    edge_cost : p.edge e ≤ slice_index (map (edge_entry e.kind) g.units) w.from
    edge_cost = edge_known g n costs whole nest p charged is_long priced e c w.from is.leaves_in leaves

    by_kind : (e.kind ≡ Next) ⊎ (e.kind ≡ Taken) → IsEnough t n w (price p charged is_long to e)
    by_kind (inl next) =
        let k = ap (λ (x : Edge). x.kind) edge ∙ next in
        let list = ap (λ (l : List ℕ). slice_index l w.from) table.next in
        let paid = ap (λ (q : EdgeKind). slice_index (map (edge_entry q) g.units) w.from) next in
        let two = small_entry g.units Next w.from in
        record { cost = read t.next w.from + read t.units w.to; path = Direct w (read t.next w.from + read t.units w.to) last (ap (plain_amount t w) k); enough = omega (arith, unit, edge_cost, list, paid, two) }
    by_kind (inr taken) =
        let k = ap (λ (x : Edge). x.kind) edge ∙ taken in
        let list = ap (λ (l : List ℕ). slice_index l w.from) table.taken in
        let paid = ap (λ (q : EdgeKind). slice_index (map (edge_entry q) g.units) w.from) taken in
        let two = small_entry g.units Taken w.from in
        record { cost = read t.taken w.from + read t.units w.to; path = Direct w (read t.taken w.from + read t.units w.to) last (ap (plain_amount t w) k); enough = omega (arith, unit, edge_cost, list, paid, two) }

-- a way along an edge
pub record IsAlong (g : Flow) (n : Numbered) (e : Edge) : Type 0 where
  pub way : Way
  pub among : Contains n.ways way
  pub edge : way.edge ≡ e
  pub is : IsWay n.addresses g.edges n.regions way

pub along : (g : Flow) (n : Numbered) → IsNest g n → (e : Edge) → Contains g.edges e → is_inner e.kind ≡ true → IsAlong g n e
along g n nest e c inner =
    let w = way_of_edge g.edges n.addresses n.regions n.ways nest.numbered.ways_are e c inner in
    record { way = w.0; among = w.1; edge = w.2; is = All-contains (IsWay n.addresses g.edges n.regions) n.ways w.0 nest.numbered.ways_are.each w.1 }

-- the way over a call, with the number of the function that is called
pub record IsOverWay (g : Flow) (n : Numbered) (t : Table) (c : Edge) : Type 0 where
  pub along : IsAlong g n (edge_of c.from (c.from + 8) Over)
  pub callee : ℕ
  pub inside : callee < length n.addresses
  pub at : slice_index n.addresses callee ≡ c.to
  pub called : called_by t along.way along.way.edge.kind ≡ Some callee

as_call : (g : Flow) (c : Edge) → Contains g.edges c → (k : EdgeKind) → c.kind ≡ k → Contains g.edges (edge_of c.from c.to k)
as_call g c among k is = subst (λ (q : EdgeKind). Contains g.edges (edge_of c.from c.to q)) is among

pub over_way : (g : Flow) (n : Numbered) (costs : Costs) (to : Option ℕ) (t : Table) → IsWhole g → AreCalls g → IsNest g n → IsTableOf g n costs to t
    → (c : Edge) → Contains g.edges c → c.kind ≡ Call → is_this to c.from ≡ false → IsOverWay g n t c
over_way g n costs to t whole calls nest table c among called off = by_callee a.way.callee refl (a.is.callee kind)
  where
    o : Edge
    o = edge_of c.from (c.from + 8) Over

    a : IsAlong g n o
    a = along g n nest o (calls.over c among called) refl

    kind : a.way.edge.kind ≡ Over
    kind = ap (λ (x : Edge). x.kind) a.edge

    from_is : a.way.edge.from ≡ c.from
    from_is = ap (λ (x : Edge). x.from) a.edge

    by_callee : (k : Option ℕ) → a.way.callee ≡ k → IsCalleeOf n.addresses g.edges a.way.edge.from a.way.callee → IsOverWay g n t c
    by_callee None is none = absurd (subst (IsCalleeOf n.addresses g.edges a.way.edge.from) is none c.to (subst (λ u. Contains g.edges (edge_of u c.to Call)) (sym from_is) (as_call g c among Call called)))
    by_callee (Some k) is some =
        let there = subst (IsCalleeOf n.addresses g.edges a.way.edge.from) is some in
        let last = not_last n (rises g n whole nest) to t.last table.last a.way.from c.from a.is.leaves_in (a.is.leaves ∙ from_is) off in
        record {
          along = a;
          callee = k;
          inside = there.0;
          at = sym (calls.one c (edge_of a.way.edge.from (slice_index n.addresses k) Call) among there.1 called refl (sym from_is));
          called = ap (called_by t a.way) kind ∙ ap (λ (b : Bool). let q : Option ℕ = (if b then None else a.way.callee) in q) last ∙ is;
        }

pub call_free : (g : Flow) (costs : Costs) (p : Prices) (charged is_long : ℕ → Bool) → IsPriced g costs p charged is_long → (c : Edge) → Contains g.edges c → c.kind ≡ Call → p.edge c ≡ 0
call_free g costs p charged is_long priced c among called =
    let h = priced.edges c among in
    let none = ap (λ (k : EdgeKind). price_by k (first_at g.units c.from)) called ∙ no_price (first_at g.units c.from) in
    omega (arith, h, none)
  where
    no_price : (o : Option Instr) → price_by Call o ≡ 0
    no_price None = refl
    no_price (Some i) = refl

-- returns have nothing ahead
pub return_there : (g : Flow) (n : Numbered) (costs : Costs) (to : Option ℕ) (t : Table) → AreCalls g → IsNest g n → IsTableOf g n costs to t → (b : Edge) → Contains g.edges b → b.kind ≡ Return → is_this to b.from ≡ false
    → (u : ℕ) × (u < length n.addresses) × (slice_index n.addresses u ≡ b.from) × (entry_at t.ends u ≡ Some 0)
return_there g n costs to t calls nest table b among returns off =
    let r = calls.returns b among returns in
    let unit = r.0 in
    let c = r.1 in
    let same = nest.numbered.addresses_are in
    let count : length (addresses_of g.units) ≡ length g.units = lengths g.units in
    let u = unit_at g.units c.0 (omega (arith, count, c.1)) in
    let is : u.unit ≡ unit = sym (u.is unit) ∙ c.2 in
    let entry : first_entry to u.unit ≡ Some 0 =
    ap (first_entry to) is ∙ ap (λ (v : Bool). let o : Option ℕ = (if v then None else return_entry (kind_of unit.first)) in o) (ap (is_this to) r.2 ∙ off) ∙ ap return_entry r.3 in (
      c.0,
      (let l = ap length same in omega (arith, l, count, c.1)),
      ap (λ (l : List ℕ). slice_index l c.0) same ∙ u.number (λ v. v.at) ∙ ap (λ (v : FlowUnit). v.at) is ∙ r.2,
      ap (λ (l : List (Option ℕ)). entry_at l c.0) table.ends ∙ ap Rattle.path_wcet.specs.Known.joined (u.entry (first_entry to)) ∙ entry,
    )
  where
    lengths : (us : List FlowUnit) → length (addresses_of us) ≡ length us
    lengths [] = refl
    lengths (v ∷ us) = let h = lengths us in omega (arith, h)

pub return_cheap : (g : Flow) (costs : Costs) (p : Prices) (charged is_long : ℕ → Bool) → IsPriced g costs p charged is_long → (b : Edge) → Contains g.edges b → b.kind ≡ Return → p.edge b ≤ 2
return_cheap g costs p charged is_long priced b among returns =
    let h = priced.edges b among in
    let two = ap (λ (k : EdgeKind). price_by k (first_at g.units b.from)) returns in
    let most = at_most (first_at g.units b.from) in
    omega (arith, h, two, most)
  where
    at_most : (o : Option Instr) → price_by Return o ≤ 2
    at_most None = omega arith
    at_most (Some i) = omega arith

-- the cost of a walk that stops
pub weighed_off : (p : Prices) (charged is_long : ℕ → Bool) (to : Option ℕ) (u : ℕ) → is_this to u ≡ false → weighed p charged is_long to u ≡ unit_cost p charged (is_long u) u
weighed_off p charged is_long to u off = ap (λ (b : Bool). let m : ℕ = (if b then 0 else unit_cost p charged (is_long u) u) in m) off

off_unit : (to : Option ℕ) (e : Edge) (es : List Edge) → IsMissed to (e ∷ es) → is_this to e.to ≡ false
off_unit None e es missed = refl
off_unit (Some a) e es missed = other_number e.to a (λ is. missed (inl is))

off_rest : (to : Option ℕ) (e : Edge) (es : List Edge) → IsMissed to (e ∷ es) → IsMissed to es
off_rest None e es missed = tt
off_rest (Some a) e es missed = λ m. missed (inr m)

pub walk_is : (g : Flow) (n : Numbered) (p : Prices) (charged is_long : ℕ → Bool) (to : Option ℕ) (start : ℕ) (es : List Edge) → IsMissed to es
    → walk_cost p charged (graph_with g n is_long) start es ≡ unit_cost p charged (is_long start) start + cost (price p charged is_long to) es
walk_is g n p charged is_long to start [] missed = omega arith
walk_is g n p charged is_long to start (e ∷ es) missed =
    let rest = walk_is g n p charged is_long to start es (off_rest to e es missed) in
    let here = weighed_off p charged is_long to e.to (off_unit to e es missed) in
    omega (arith, rest, here)

pub into_is : (p : Prices) (charged is_long : ℕ → Bool) (to : Option ℕ) (e : Edge) → IsInto to e → price p charged is_long to e ≡ p.edge e
into_is p charged is_long None e into = absurd into
into_is p charged is_long (Some a) e into =
    let z = ap (λ (b : Bool). let m : ℕ = (if b then 0 else unit_cost p charged (is_long e.to) e.to) in m) (eq-eqb e.to a into) in
    omega (arith, z)
