-- No walk of a graph costs more than what is found.
use Rattle.std.proofs.Common.{◌≡◌, refl, sym, ap, subst, ◌∙◌, ℕ, ◌+◌, ◌<◌, ◌≤◌, min, Bool, true, false, List, [], ◌∷◌, length, arith, ◌⊎◌, inl, inr, Option, Some}
use Rattle.std.specs.Prelude.{◌&&◌, ◌||◌, ◌==◌, slice_index}
use Rattle.std.specs.List.{Contains}
use Rattle.std.proofs.lemmas.Bool.{cases_Bool, eqb-true}
use Rattle.visa_io.specs.declared.records.Region.{Region}
use Rattle.flow_graph.specs.Edges.{edge_of}
use Rattle.flow_graph.specs.Flow.{Flow}
use Rattle.flow_graph.specs.Reached.{is_inner}
use Rattle.flow_graph.specs.declared.parts.Edge.{Edge}
use Rattle.flow_graph.specs.declared.parts.EdgeKind.{EdgeKind}
use Rattle.flow_graph.specs.declared.parts.EdgeKind.TheVariants.{Next, Taken, Call, Return, Over}
use Rattle.loop_regions.specs.Costs.{Prices, unit_cost}
use Rattle.loop_regions.specs.Nested.{IsNest, IsWhole, Numbered}
use Rattle.loop_regions.specs.Regions.{is_back}
use Rattle.loop_regions.specs.Walks.{IsWalk, alone, holds}
use Rattle.loop_regions.specs.Ways.{IsWay}
use Rattle.loop_regions.specs.declared.ways.Way.{Way}
use Rattle.loop_regions.proofs.FreeWays.{edge_of_way}
use Rattle.std.proofs.lemmas.List.Elements.{All-contains}
use Rattle.path_wcet.specs.declared.ahead.Aim.{Aim}
use Rattle.path_wcet.specs.declared.ahead.Aim.TheVariants as aim
use Rattle.path_wcet.specs.declared.costs.Costs.{Costs}
use Rattle.path_wcet.specs.Known.{Table, called_by, entry, entry_at, is_this, lap, limit, read}
use Rattle.path_wcet.specs.Longest.{AreCalls, IsBound, IsOpening, IsPriced, IsTableOf, graph_with}
use Rattle.path_wcet.specs.Paid.{IsPlain, cap, cost}
use Rattle.path_wcet.specs.Paths.{Keeps, Path}
use Rattle.path_wcet.specs.Paths.Goal.{To, Along, Laps}
use Rattle.path_wcet.specs.Paths.Path.{Calls, Returns, Stops, Through}
use Rattle.path_wcet.specs.Settled.{AreStops, IsFound, or_zero}
use Rattle.path_wcet.specs.Slack.{begins, entering}
use Rattle.path_wcet.specs.Tables.{place, turn_at}
use Rattle.path_wcet.proofs.Bounds.{AreAhead, IsPaying, walk_fits}
use Rattle.path_wcet.proofs.Complete.{AreBack, met, read_far}
use Rattle.path_wcet.proofs.Ends.{goes_there, kept_into, kept_walk, stays_there, without}
use Rattle.path_wcet.proofs.Join.{IsAlong, IsEnough, IsOverWay, along, back_is, back_price, call_free, into_is, over_way, plain_enough, price, return_cheap, return_there, rises, unit_known, walk_is, weighed_off}
use Rattle.path_wcet.proofs.Laps.{entering_most, entering_zero, later, returning_most}
use Rattle.path_wcet.proofs.Near.{IsDead, IsNet, IsPath, Near, backward, begins_at, drop_to, forward}
use Rattle.path_wcet.proofs.Near.Near.{Dead, Here}
use Rattle.path_wcet.proofs.Nests.{earlier, entered, entered_function, one_region}
use Rattle.path_wcet.proofs.Places.{place_of}
use Rattle.path_wcet.proofs.Reach.{no_bool}
use Rattle.path_wcet.proofs.Small.{IsSmall}

-- ways back are known
pub ways_back : (g : Flow) (n : Numbered) → IsNest g n → AreBack n
ways_back g n nest w among r c to within = (All-contains (IsWay n.addresses g.edges n.regions) n.ways w nest.numbered.ways_are.each among).back ∙ back_is n.regions w.edge r c to within

-- what the nest and what is found keep
pub net_of : (g : Flow) (n : Numbered) (costs : Costs) (to : Option ℕ) (t : Table) (turns : List ℕ) (rets stops : List (Option ℕ)) → IsWhole g → IsNest g n → ((u x : ℕ) → entry_at t.ends u ≡ Some x → (x ≡ 0) × (u < length n.addresses)) → IsFound t n turns rets → AreStops t n turns rets stops → IsNet t n turns
net_of g n costs to t turns rets stops whole nest ends found stopped = record {
  rise = rises g n whole nest;
  unique = one_region g n.regions nest.nested;
  apart = earlier g n.regions nest.nested;
  leaves = λ w c. let x = is w c in (x.leaves, x.leaves_in);
  enters = λ w c. let x = is w c in (x.enters, x.enters_in);
  entered = λ w c. let e = edge_of_way g.edges n.addresses n.regions n.ways nest.numbered.ways_are w c in entered g n.regions nest.nested w.edge (record { among = e.0; inner = e.1 });
  ends = ends;
  reached = found.known.turns_are;
  most = λ r c u k inside at path.
      let m = met t n turns rets stops (rises g n whole nest) (ways_back g n nest) found stopped (To (aim.Lap r)) u k path c in
      turn_most r c u k inside at m;
}
  where
    is : (w : Way) → Contains n.ways w → IsWay n.addresses g.edges n.regions w
    is w c = All-contains (IsWay n.addresses g.edges n.regions) n.ways w nest.numbered.ways_are.each c

    turn_most : (r : Region) (c : Contains n.regions r) (u k : ℕ) → u < length n.addresses → slice_index n.addresses u ≡ r.header → Rattle.path_wcet.proofs.Complete.IsFarAt (found.turned r c).0.base (found.turned r c).3.inner u (min limit k) → min limit k ≤ slice_index turns u
    turn_most r c u k inside at far = Rattle.path_wcet.proofs.Complete.turn_far t n turns rets (rises g n whole nest) found r c u k inside at far

-- a back edge has its region
pub record IsBackOf (rs : List Region) (e : Edge) : Type 0 where
  pub region : Region
  pub among : Contains rs region
  pub to : e.to ≡ region.header
  pub within : holds region e.from ≡ true

back_of : (rs : List Region) (e : Edge) → is_back rs e ≡ true → IsBackOf rs e
back_of [] e is = no_bool (sym is)
back_of (r ∷ rs) e is = by_first (e.to == r.header) (holds r e.from) refl refl (λ h. back_of rs e h) is
  where
    by_first : (p q : Bool) → (e.to == r.header) ≡ p → holds r e.from ≡ q → (is_back rs e ≡ true → IsBackOf rs e) → ((p && q) || is_back rs e) ≡ true → IsBackOf (r ∷ rs) e
    by_first true true p q more h = record { region = r; among = (0, omega arith, refl); to = eqb-true e.to r.header p; within = q }
    by_first true false p q more h = let m = more h in record { region = m.region; among = later r rs m.region m.among; to = m.to; within = m.within }
    by_first false q p w more h = let m = more h in record { region = m.region; among = later r rs m.region m.among; to = m.to; within = m.within }

-- what can be ahead of the unit at an address
abbrev pub StopAt : (t : Table) (n : Numbered) (turns : List ℕ) → ℕ → ℕ → ℕ → Type 0
StopAt t n turns a m d = (m ≤ d) ⊎ Near t n turns aim.Stop (place n.addresses a) m d

abbrev pub RetAt : (t : Table) (n : Numbered) (turns : List ℕ) → ℕ → ℕ → ℕ → Type 0
RetAt t n turns a m d = Near t n turns aim.Return (place n.addresses a) m d

near_stop : (t : Table) (n : Numbered) (turns : List ℕ) (a u m d : ℕ) → place n.addresses a ≡ u → u < length n.addresses → StopAt t n turns a m d → Near t n turns aim.Stop u m d
near_stop t n turns a u m d is inside (inl small) = Here u m d 0 (Stops u inside) (omega (arith, small))
near_stop t n turns a u m d is inside (inr near) = subst (λ v. Near t n turns aim.Stop v m d) is near

-- along a way, forward or back
pays : (g : Flow) (n : Numbered) (t : Table) (turns : List ℕ) → IsWhole g → IsNest g n → IsNet t n turns → (to : Aim) (far : ℕ → ℕ → ℕ → Type 0) (e : Edge) (a : IsAlong g n e) → Keeps to a.way → ((m d : ℕ) → Near t n turns to a.way.from m d → far e.from m d)
    → (k : ℕ) → Path t n (Along a.way) a.way.from k → (c f : ℕ) → c ≤ k + f → (m d : ℕ) → Near t n turns to a.way.to m d → IsPaying (turn_at n.addresses turns) n.regions far e (c + m) (f + d)
pays g n t turns whole nest net to far e a keeps embed k along c f most m d near = by_back (cases_Bool a.way.back)
  where
    turn : Region → ℕ
    turn = turn_at n.addresses turns

    enters : slice_index n.addresses a.way.to ≡ e.to
    enters = a.is.enters ∙ ap (λ (x : Edge). x.to) a.edge

    by_back : (a.way.back ≡ true) ⊎ (a.way.back ≡ false) → IsPaying (turn_at n.addresses turns) n.regions far e (c + m) (f + d)
    by_back (inr ahead) =
        let there = forward t n turns net to a.way a.among ahead keeps k along m d near in
        let same = ap (begins (turn_at n.addresses turns) n.regions) enters in
        let more = entering_most (turn_at n.addresses turns) n.regions e.from e.to in
        record {
          value = k + begins (turn_at n.addresses turns) n.regions (slice_index n.addresses a.way.to) + m;
          debt = d;
          there = embed (k + begins (turn_at n.addresses turns) n.regions (slice_index n.addresses a.way.to) + m) d there;
          enough = omega (arith, same, more, most);
        }
    by_back (inl behind) =
        let b = back_of n.regions e (sym (ap (is_back n.regions) a.edge) ∙ sym a.is.back ∙ behind) in
        let to_header : a.way.edge.to ≡ b.region.header = ap (λ (x : Edge). x.to) a.edge ∙ b.to in
        let held : holds b.region a.way.edge.from ≡ true = subst (λ (x : Edge). holds b.region x.from ≡ true) (sym a.edge) b.within in
        let there = backward t n turns net to a.way a.among b.region b.among to_header held k along m d near in
        let r = returning_most (turn_at n.addresses turns) n.regions b.region b.among e.from e.to b.to b.within in
        let z = entering_zero (turn_at n.addresses turns) n.regions e.from e.to (λ x among is. subst (λ (v : Region). holds v e.from ≡ true) (net.unique b.region x b.among among (sym b.to ∙ is)) b.within) in
        let same : turn_at n.addresses turns b.region ≡ slice_index turns a.way.to = ap (slice_index turns) (place_of n.addresses net.rise a.way.to b.region.header a.is.enters_in (enters ∙ b.to)) in
        record {
          value = k + m;
          debt = d + slice_index turns a.way.to;
          there = embed (k + m) (d + slice_index turns a.way.to) there;
          enough = omega (arith, r, z, same, most);
        }

dead_pays : (n : Numbered) (t : Table) (turns : List ℕ) (to : Aim) (far : ℕ → ℕ → ℕ → Type 0) (e : Edge) (u : ℕ) → ((m d : ℕ) → Near t n turns to u m d → far e.from m d) → IsDead t n u → (m d : ℕ) → IsPaying (turn_at n.addresses turns) n.regions far e m d
dead_pays n t turns to far e u embed dead m d = record {
  value = m + entering (turn_at n.addresses turns) n.regions e.from e.to;
  debt = 0;
  there = embed (m + entering (turn_at n.addresses turns) n.regions e.from e.to) 0 (Dead u (m + entering (turn_at n.addresses turns) n.regions e.from e.to) 0 dead.cost dead.path dead.far);
  enough = omega arith;
}

-- a call of a function beyond the cap is beyond it
dead_call : (t : Table) (n : Numbered) (turns : List ℕ) → IsNet t n turns → (w : Way) (f : ℕ) → Contains n.ways w → f < length n.addresses → called_by t w w.edge.kind ≡ Some f → IsDead t n f → IsDead t n w.from
dead_call t n turns net w f among inside called dead =
    let b = begins_at t n turns net f inside in
    let h = dead.far in
    record { cost = read t.units f + b.cost + dead.cost; path = Calls w f b.cost dead.cost among called b.path dead.path; far = omega (arith, h) }

-- all that can be ahead
pub all_ahead : (g : Flow) (n : Numbered) (costs : Costs) (to : Option ℕ) (t : Table) (turns : List ℕ) → IsWhole g → AreCalls g → IsNest g n → IsTableOf g n costs to t → IsSmall g costs → IsNet t n turns
    → (p : Prices) (charged is_long : ℕ → Bool) → IsPriced g costs p charged is_long
    → AreAhead (without (graph_with g n is_long) to) (price p charged is_long to) (back_price p charged is_long to) (turn_at n.addresses turns) (StopAt t n turns) (RetAt t n turns)
all_ahead g n costs to t turns whole calls nest table small net p charged is_long priced = record {
  entered = λ e c inner. entered g n.regions nest.nested e (record { among = (here e c).0; inner = inner });
  plain = λ e c plain m d far.
      let a = way e c (plain_inner e.kind plain) in
      let k = enough e c plain in
      subst (IsPaying turn n.regions (StopAt t n turns) e (price p charged is_long to e + m)) (let z : 0 + d ≡ d = omega arith in z)
      (pays g n t turns whole nest net aim.Stop (StopAt t n turns) e a tt (stop_embed e a) k.cost k.path (price p charged is_long to e) 0 (let h = k.enough in omega (arith, h)) m d (near_stop t n turns e.to a.way.to m d (to_place e a) a.is.enters_in far));
  plain_ret = λ e c plain m d far.
      let a = way e c (plain_inner e.kind plain) in
      let k = enough e c plain in
      subst (IsPaying turn n.regions (RetAt t n turns) e (price p charged is_long to e + m)) (let z : 0 + d ≡ d = omega arith in z)
      (pays g n t turns whole nest net aim.Return (RetAt t n turns) e a tt (ret_embed e a) k.cost k.path (price p charged is_long to e) 0 (let h = k.enough in omega (arith, h)) m d (subst (λ v. Near t n turns aim.Return v m d) (to_place e a) far));
  call = λ c among called m d far. calls_pay c among called m d far;
  called = λ c among called. stays_there (graph_with g n is_long) to (edge_of c.from (c.from + 8) Over) (calls.over c (here c among).0 called) (here c among).1;
  called_in = λ c among called r there within. entered_function g n.regions nest.nested c.to (calls.functions c (here c among).0 called) r there within;
  over = λ c among called m f x d back far.
      let o = over c among called in
      overs_pay aim.Stop (StopAt t n turns) c among called o tt (stop_embed (edge_of c.from (c.from + 8) Over) o.along) m f back x d (near_stop t n turns (c.from + 8) o.along.way.to x d (to_place (edge_of c.from (c.from + 8) Over) o.along) o.along.is.enters_in far);
  over_ret = λ c among called m f x d back far.
      let o = over c among called in
      overs_pay aim.Return (RetAt t n turns) c among called o tt (ret_embed (edge_of c.from (c.from + 8) Over) o.along) m f back x d (subst (λ v. Near t n turns aim.Return v x d) (to_place (edge_of c.from (c.from + 8) Over) o.along) far);
  return = λ b among returns.
      let r = return_there g n costs to t calls nest table b (here b among).0 returns (here b among).1 in (
        (let h = return_cheap g costs p charged is_long priced b (here b among).0 returns in omega (arith, h)),
        subst (λ v. Near t n turns aim.Return v 0 0) (sym (place_of n.addresses net.rise r.0 b.from r.1 r.2)) (Here r.0 0 0 0 (Returns r.0 0 r.3) (omega arith)),
      );
  stops = λ u. inl (omega arith);
}
  where
    turn : Region → ℕ
    turn = turn_at n.addresses turns

    plain_inner : (k : EdgeKind) → IsPlain k → is_inner k ≡ true
    plain_inner Next q = refl
    plain_inner Taken q = refl
    plain_inner Call q = absurd q
    plain_inner Return q = absurd q
    plain_inner Over q = absurd q

    here : (e : Edge) → Contains (without (graph_with g n is_long) to).edges e → Contains g.edges e × (is_this to e.from ≡ false)
    here e c = goes_there (graph_with g n is_long) to e c

    way : (e : Edge) → Contains (without (graph_with g n is_long) to).edges e → is_inner e.kind ≡ true → IsAlong g n e
    way e c inner = along g n nest e (goes_there (graph_with g n is_long) to e c).0 inner

    enough : (e : Edge) (c : Contains (without (graph_with g n is_long) to).edges e) (plain : IsPlain e.kind) → IsEnough t n (way e c (plain_inner e.kind plain)).way (price p charged is_long to e)
    enough e c plain =
        let a = way e c (plain_inner e.kind plain) in
        plain_enough g n costs to t whole nest table small p charged is_long priced e (goes_there (graph_with g n is_long) to e c).0 plain (goes_there (graph_with g n is_long) to e c).1 a.way a.edge a.is

    over : (c : Edge) (among : Contains (without (graph_with g n is_long) to).edges c) → c.kind ≡ Call → IsOverWay g n t c
    over c among called = over_way g n costs to t whole calls nest table c (goes_there (graph_with g n is_long) to c among).0 called (goes_there (graph_with g n is_long) to c among).1

    to_place : (e : Edge) (a : IsAlong g n e) → place n.addresses e.to ≡ a.way.to
    to_place e a = place_of n.addresses net.rise a.way.to e.to a.is.enters_in (a.is.enters ∙ ap (λ (x : Edge). x.to) a.edge)

    from_place : (e : Edge) (a : IsAlong g n e) → place n.addresses e.from ≡ a.way.from
    from_place e a = place_of n.addresses net.rise a.way.from e.from a.is.leaves_in (a.is.leaves ∙ ap (λ (x : Edge). x.from) a.edge)

    stop_embed : (e : Edge) (a : IsAlong g n e) (m d : ℕ) → Near t n turns aim.Stop a.way.from m d → StopAt t n turns e.from m d
    stop_embed e a m d near = inr (subst (λ v. Near t n turns aim.Stop v m d) (sym (from_place e a)) near)

    ret_embed : (e : Edge) (a : IsAlong g n e) (m d : ℕ) → Near t n turns aim.Return a.way.from m d → RetAt t n turns e.from m d
    ret_embed e a m d near = subst (λ v. Near t n turns aim.Return v m d) (sym (from_place e a)) near

    callee_place : (c : Edge) (o : IsOverWay g n t c) → place n.addresses c.to ≡ o.callee
    callee_place c o = place_of n.addresses net.rise o.callee c.to o.inside o.at

    opening : (c : Edge) → Contains (without (graph_with g n is_long) to).edges c → c.kind ≡ Call → (o : IsOverWay g n t c) → (r : Region) → Contains n.regions r → holds r (slice_index n.addresses o.callee) ≡ true → slice_index n.addresses o.callee ≡ r.header
    opening c among called o r there within = o.at ∙ entered_function g n.regions nest.nested c.to (calls.functions c (goes_there (graph_with g n is_long) to c among).0 called) r there (subst (λ v. holds r v ≡ true) o.at within)

    first_cost : (c : Edge) (among : Contains (without (graph_with g n is_long) to).edges c) → c.kind ≡ Call → (o : IsOverWay g n t c) → price p charged is_long to c ≤ read t.units o.callee
    first_cost c among called o =
        let u = unit_known g n costs to t nest table small p charged is_long priced o.callee c.to o.inside o.at in
        let z = call_free g costs p charged is_long priced c (goes_there (graph_with g n is_long) to c among).0 called in
        omega (arith, u, z)

    first_laps : (c : Edge) (o : IsOverWay g n t c) → begins (turn_at n.addresses turns) n.regions c.to ≤ (begins_at t n turns net o.callee o.inside).cost
    first_laps c o =
        let b = begins_at t n turns net o.callee o.inside in
        let h = b.most in
        let same = ap (begins (turn_at n.addresses turns) n.regions) o.at in
        omega (arith, h, same)

    calls_pay : (c : Edge) → Contains (without (graph_with g n is_long) to).edges c → c.kind ≡ Call → (m d : ℕ) → StopAt t n turns c.to m d
        → (k e : ℕ) × StopAt t n turns c.from k e × (price p charged is_long to c + begins (turn_at n.addresses turns) n.regions c.to + m + e ≤ k + d)
    calls_pay c among called m d far = by_drop (drop_to t n turns net aim.Stop o.callee o.inside (opening c among called o) m d (near_stop t n turns c.to o.callee m d (callee_place c o) o.inside far))
      where
        o : IsOverWay g n t c
        o = over c among called

        by_drop : IsPath t n aim.Stop o.callee m d ⊎ IsDead t n o.callee → (k e : ℕ) × StopAt t n turns c.from k e × (price p charged is_long to c + begins (turn_at n.addresses turns) n.regions c.to + m + e ≤ k + d)
        by_drop (inl path) =
            let b = begins_at t n turns net o.callee o.inside in
            let k : ℕ = read t.units o.callee + b.cost + path.cost in
            let x = first_cost c among called o in
            let y = first_laps c o in
            let z = path.most in
            (k, 0, stop_embed (edge_of c.from (c.from + 8) Over) o.along k 0 (Here o.along.way.from k 0 k (Calls o.along.way o.callee b.cost path.cost o.along.among o.called b.path path.path) (omega arith)), omega (arith, x, y, z))
        by_drop (inr dead) =
            let far = dead_call t n turns net o.along.way o.callee o.along.among o.inside o.called dead in
            let k : ℕ = price p charged is_long to c + begins (turn_at n.addresses turns) n.regions c.to + m in
            (k, 0, stop_embed (edge_of c.from (c.from + 8) Over) o.along k 0 (Dead o.along.way.from k 0 far.cost far.path far.far), omega arith)

    overs_pay : (q : Aim) (far : ℕ → ℕ → ℕ → Type 0) (c : Edge) (among : Contains (without (graph_with g n is_long) to).edges c) → c.kind ≡ Call → (o : IsOverWay g n t c) → Keeps q o.along.way → ((m d : ℕ) → Near t n turns q o.along.way.from m d → far c.from m d)
        → (m f : ℕ) → RetAt t n turns c.to m f → (x d : ℕ) → Near t n turns q o.along.way.to x d
        → IsPaying (turn_at n.addresses turns) n.regions far (edge_of c.from (c.from + 8) Over) (price p charged is_long to c + begins (turn_at n.addresses turns) n.regions c.to + m + back_price p charged is_long to (c.from + 8) + x) (f + d)
    overs_pay q far c among called o keeps embed m f back x d near = by_drop (drop_to t n turns net aim.Return o.callee o.inside (opening c among called o) m f (subst (λ v. Near t n turns aim.Return v m f) (callee_place c o) back))
      where
        by_drop : IsPath t n aim.Return o.callee m f ⊎ IsDead t n o.callee
            → IsPaying (turn_at n.addresses turns) n.regions far (edge_of c.from (c.from + 8) Over) (price p charged is_long to c + begins (turn_at n.addresses turns) n.regions c.to + m + back_price p charged is_long to (c.from + 8) + x) (f + d)
        by_drop (inl path) =
            let b = begins_at t n turns net o.callee o.inside in
            let k : ℕ = read t.units o.callee + b.cost + path.cost + 2 + read t.units o.along.way.to in
            let one = first_cost c among called o in
            let two = first_laps c o in
            let three = path.most in
            let four = unit_known g n costs to t nest table small p charged is_long priced o.along.way.to (c.from + 8) o.along.is.enters_in (o.along.is.enters ∙ ap (λ (y : Edge). y.to) o.along.edge) in
            pays g n t turns whole nest net q far (edge_of c.from (c.from + 8) Over) o.along keeps embed k (Through o.along.way o.callee b.cost path.cost o.called b.path path.path)
            (price p charged is_long to c + begins (turn_at n.addresses turns) n.regions c.to + m + back_price p charged is_long to (c.from + 8)) f (omega (arith, one, two, three, four)) x d near
        by_drop (inr dead) =
            dead_pays n t turns q far (edge_of c.from (c.from + 8) Over) o.along.way.from embed (dead_call t n turns net o.along.way o.callee o.along.among o.inside o.called dead)
            (price p charged is_long to c + begins (turn_at n.addresses turns) n.regions c.to + m + back_price p charged is_long to (c.from + 8) + x) (f + d)

-- a number that is below the cap
found_zero : (o : Option ℕ) (m : ℕ) → o ≡ Some m → or_zero o ≡ m
found_zero o m is = ap or_zero is

-- the number that comes out is at least what each walk costs
pub bound_is : (g : Flow) (n : Numbered) (costs : Costs) (from : ℕ) (to : Option ℕ) (t : Table) (turns : List ℕ) (rets stops : List (Option ℕ)) → IsWhole g → AreCalls g → IsNest g n → IsTableOf g n costs to t → IsSmall g costs → IsNet t n turns → IsFound t n turns rets → AreStops t n turns rets stops
    → IsOpening n from → is_this to from ≡ false → (k : ℕ) → k < length n.addresses → slice_index n.addresses k ≡ from → (most : ℕ) → most ≡ min cap (read t.units k + lap t turns k + or_zero (entry 0 stops k)) → IsBound g n costs from to most
bound_is g n costs from to t turns rets stops whole calls nest table small net found stopped opening other k inside at most is p charged is_long priced below = record {
  inside = λ es walk missed. let w = fits es (kept_walk (graph_with g n is_long) to from other es walk missed) in let c = walk_is g n p charged is_long to from es missed in omega (arith, w, c);
  into = λ e es walk missed into.
      let before = kept_walk (graph_with g n is_long) to from other es walk.0 missed in
      let w = fits (e ∷ es) (kept_into (graph_with g n is_long) to from other e es walk missed before) in
      let c = walk_is g n p charged is_long to from es missed in
      let z = into_is p charged is_long to e into in
      omega (arith, w, c, z);
}
  where
    first : unit_cost p charged (is_long from) from ≤ read t.units k
    first =
        let u = unit_known g n costs to t nest table small p charged is_long priced k from inside at in
        let w = weighed_off p charged is_long to from other in
        omega (arith, u, w)

    laps : begins (turn_at n.addresses turns) n.regions from ≤ lap t turns k
    laps =
        let b = begins_at t n turns net k inside in
        let m = met t n turns rets stops net.rise (ways_back g n nest) found stopped Laps k b.cost b.path in
        let h = b.most in
        let same = ap (begins (turn_at n.addresses turns) n.regions) at in
        let low : lap t turns k < cap = omega (arith, is, below) in
        omega (arith, m, h, same, low)

    ahead : (v : ℕ) → Path t n (To aim.Stop) k v → min limit v ≤ or_zero (entry 0 stops k)
    ahead v path =
        let m = met t n turns rets stops net.rise (ways_back g n nest) found stopped (To aim.Stop) k v path in
        let r = read_far 0 stops k (min limit v) m in
        let e = found_zero (entry 0 stops k) r.0 r.1 in
        let h = r.2 in
        omega (arith, e, h)

    enough : (m d : ℕ) → StopAt t n turns from m d → unit_cost p charged (is_long from) from + begins (turn_at n.addresses turns) n.regions from + m ≤ most + d
    enough m d far = by_drop (drop_to t n turns net aim.Stop k inside (λ r c within. at ∙ opening r c (subst (λ v. holds r v ≡ true) at within)) m d (near_stop t n turns from k m d (place_of n.addresses net.rise k from inside at) inside far))
      where
        by_drop : IsPath t n aim.Stop k m d ⊎ IsDead t n k → unit_cost p charged (is_long from) from + begins (turn_at n.addresses turns) n.regions from + m ≤ most + d
        by_drop (inl path) = let a = ahead path.cost path.path in let h = path.most in omega (arith, a, h, first, laps, is, below)
        by_drop (inr dead) = let a = ahead dead.cost dead.path in let h = dead.far in absurd (omega (arith, a, h, is, below))

    fits : (es : List Edge) → IsWalk (without (graph_with g n is_long) to) (alone from) es → unit_cost p charged (is_long from) from + cost (price p charged is_long to) es ≤ most
    fits es walk = walk_fits (without (graph_with g n is_long) to) (price p charged is_long to) (back_price p charged is_long to) (turn_at n.addresses turns) (StopAt t n turns) (RetAt t n turns)
        (all_ahead g n costs to t turns whole calls nest table small net p charged is_long priced) from opening (unit_cost p charged (is_long from) from) most enough es walk
