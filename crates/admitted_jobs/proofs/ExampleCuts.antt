-- The example's sub-tasks, and their bounds.
use Rattle.std.proofs.Common.{◌≡◌, ◌≢◌, ◌∙◌, refl, sym, ap, subst, ℕ, zero, suc, ◌+◌, ◌<◌, ◌≤◌, min, Bool, true, false, List, [], ◌∷◌, length, arith, lit<, ◌⊎◌, inl, inr}
use Rattle.std.specs.Prelude.{◌==◌, if◌then◌else◌, None, Some, Option, slice_get, slice_index}
use Rattle.std.proofs.lemmas.Bool.{eqb-true}
use Rattle.std.specs.List.{Contains}
use Rattle.mips_isa.specs.Kinds.{kind_of}
use Rattle.mips_isa.specs.declared.instr.Kind.TheVariants as kind
use Rattle.flow_graph.specs.Edges.{edge_of}
use Rattle.flow_graph.specs.Reached.{is_inner}
use Rattle.flow_graph.specs.declared.parts.Edge.{Edge}
use Rattle.flow_graph.specs.declared.parts.EdgeKind.{EdgeKind}
use Rattle.flow_graph.specs.declared.parts.EdgeKind.TheVariants.{Next}
use Rattle.flow_graph.specs.declared.parts.Unit.{Unit as FlowUnit}
use Rattle.loop_regions.specs.Costs.{Prices, unit_cost, walk_cost}
use Rattle.loop_regions.specs.Walks.{Comes, IsWalk, LoopGraph, alone}
use Rattle.path_wcet.specs.Longest.{AreMost, IsCost, IsInto, IsMissed, IsPriced, IsPricedExactly, graph_with}
use Rattle.path_wcet.specs.Paid.{cap}
use Rattle.path_wcet.specs.Static.{edge_price, static_cost, unit_price}
use Rattle.path_wcet.specs.declared.costs.Costs.{Costs}
use Rattle.persistence.specs.Charges.{Charge}
use Rattle.subtask_cut.specs.Cuts.{AreSubTasks, Has, IsCut, IsInScope, IsReturn, IsScope, SubTasks}
use Rattle.subtask_cut.specs.Ways.{IsReached, IsWay, is_onward, units_of}
use Rattle.subtask_cut.specs.declared.fault.CutFault.{CutFault}
use Rattle.subtask_cut.specs.declared.fault.CutFault.TheVariants.{Slot, InCallee, InRegion, Order, Bypassed, Memory}
use Rattle.admission.specs.Found.{AreBounds, IsBound, bounds_at, costs_with, pen_of}
use Rattle.admitted_jobs.proofs.ExampleFacts.{nest}
use Rattle.admitted_jobs.proofs.ExampleGraph.{flow, one, two, unit_0, unit_4}
use Rattle.admitted_jobs.proofs.ExampleTask.{machine, task}

abbrev pub subs : SubTasks
subs = record { firsts = 0 ∷ 4 ∷ []; scopes = (0 ∷ []) ∷ (4 ∷ []) ∷ [] }

the_edge : (e : Edge) → Contains flow.edges e → e ≡ edge_of 0 4 Next
the_edge e among = one (λ d. d ≡ edge_of 0 4 Next) (edge_of 0 4 Next) refl e among

-- the one cut
cut_is : (i c : ℕ) → IsCut (4 ∷ []) i c → (i ≡ 2) × (c ≡ 4)
cut_is i c is = by_place is.place is.at is.number
  where
    by_place : (k : ℕ) → slice_get (4 ∷ []) k ≡ Some c → i ≡ k + 2 → (i ≡ 2) × (c ≡ 4)
    by_place zero at number = let there : Some 4 ≡ Some c = at in let same : 4 ≡ c = cc in (number, sym same)
    by_place (suc k) at number = cc

-- ways in the graph come from the entry to the cut, and no further
way_from_0 : (avoid : Option ℕ) (asked : EdgeKind → Bool) (u : ℕ) (us : List ℕ)
    → IsWay flow.edges asked avoid 0 (u ∷ us) → (u ≡ 0) ⊎ ((u ≡ 4) × (avoid ≢ Some 4))
way_from_0 avoid asked u [] way = inl way.0
way_from_0 avoid asked u (v ∷ us) way =
    let joins = way.0 in
    let to : u ≡ 4 = sym joins.to_is ∙ ap (λ (e : Edge). e.to) (the_edge joins.edge joins.among) in
    inr (to, subst (λ n. avoid ≢ Some n) to way.1)

way_from_4 : (avoid : Option ℕ) (asked : EdgeKind → Bool) (u : ℕ) (us : List ℕ)
    → IsWay flow.edges asked avoid 4 (u ∷ us) → u ≡ 4
way_from_4 avoid asked u [] way = way.0
way_from_4 avoid asked u (v ∷ us) way =
    let joins = way.0 in
    let from : v ≡ 0 = sym joins.from_is ∙ ap (λ (e : Edge). e.from) (the_edge joins.edge joins.among) in
    absurd (omega (arith, from, way_from_4 avoid asked v us way.2))

returns_at : (u : ℕ) → IsReturn flow u → u ≡ 4
unfolding kind_of
returns_at u r = two (λ (unit : FlowUnit). kind_of unit.first ≡ kind.Return → unit.at ≡ u → u ≡ 4) unit_0 unit_4
    (λ plain at. cc) (λ returns at. sym at) r.unit r.among r.returns r.at

-- units are the entry's function's alone
only_main : (f c : ℕ) → Contains (units_of flow f) c → f ≡ 0
only_main f c among = by_test (0 == f) refl among
  where
    by_test : (b : Bool) → (0 == f) ≡ b → Contains (if b then 0 ∷ 4 ∷ [] else []) c → f ≡ 0
    by_test true is there = sym (eqb-true 0 f is)
    by_test false is there = absurd (omega (arith, there.1))

-- no fault
sound : (fault : CutFault) → Has flow [] (4 ∷ []) fault → ⊥
sound (Slot i) (c, cut, none) = none (1, lit< tt, sym (cut_is i c cut).1)
sound (InCallee i) (c, cut, inl none) = none (1, lit< tt, sym (cut_is i c cut).1)
sound (InCallee i) (c, cut, inr (f, other, among)) = other (only_main f c among)
sound (InRegion i) (c, cut, inside) = let among = inside.1 in omega (arith, among.1)
sound (Order i) (c, cut, inl same) = omega (arith, same, (cut_is i c cut).1)
sound (Order i) (c, cut, inr (inl (j, less, earlier))) = omega
    (arith, less, (cut_is i c cut).0, (cut_is j c earlier).0)
sound (Order i) (c, cut, inr (inr (j, b, next, before, way))) = omega
    (arith, next, (cut_is i c cut).0, (cut_is j b before).0)
sound (Bypassed i) (c, cut, (u, returns, way)) =
    let at : u ≡ 4 = returns_at u returns in
    elim (way_from_0 (Some c) is_inner u way.us way.way) [
      | inl first ↦ omega (arith, first, at)
      | inr there ↦ there.1 (ap (λ (n : ℕ). let o : Option ℕ = Some n in o) (cut_is i c cut).1)
    ]
sound Memory has = has

-- the scopes
first_scope : IsScope flow (0 ∷ 4 ∷ []) 0 (0 ∷ [])
first_scope = record {
  are = λ u. (
    one (λ v. IsInScope flow (0 ∷ 4 ∷ []) 0 v) 0 (0, refl, record { us = []; way = (refl, λ e. cc) }) u,
    λ within. inside u within.0 within.1 within.2,
  );
  rise = λ k below. absurd (omega (arith, below));
}
  where
    inside : (u first : ℕ) → Some 0 ≡ Some first → IsReached flow.edges is_onward (Some 4) first u
        → Contains (0 ∷ []) u
    inside u first at reached =
        let same : 0 ≡ first = cc in
        let own = subst (λ f. IsReached flow.edges is_onward (Some 4) f u) (sym same) reached in
        elim (way_from_0 (Some 4) is_onward u own.us own.way) [
          | inl zero_is ↦ (0, lit< tt, sym zero_is)
          | inr there ↦ absurd (there.1 refl)
        ]

second_scope : IsScope flow (0 ∷ 4 ∷ []) 1 (4 ∷ [])
second_scope = record {
  are = λ u. (
    one (λ v. IsInScope flow (0 ∷ 4 ∷ []) 1 v) 4 (4, refl, record { us = []; way = (refl, λ e. cc) }) u,
    λ within. inside u within.0 within.1 within.2,
  );
  rise = λ k below. absurd (omega (arith, below));
}
  where
    inside : (u first : ℕ) → Some 4 ≡ Some first → IsReached flow.edges is_onward None first u → Contains (4 ∷ []) u
    inside u first at reached =
        let same : 4 ≡ first = cc in
        let own = subst (λ f. IsReached flow.edges is_onward None f u) (sym same) reached in
        (0, lit< tt, sym (way_from_4 None is_onward u own.us own.way))

scopes : (k : ℕ) (us : List ℕ) → slice_get subs.scopes k ≡ Some us → IsScope flow subs.firsts k us
scopes zero us is =
    let e : Some (0 ∷ []) ≡ Some us = is in
    let same : (0 ∷ []) ≡ us = cc in subst (λ vs. IsScope flow (0 ∷ 4 ∷ []) 0 vs) same first_scope
scopes (suc zero) us is =
    let e : Some (4 ∷ []) ≡ Some us = is in
    let same : (4 ∷ []) ≡ us = cc in subst (λ vs. IsScope flow (0 ∷ 4 ∷ []) 1 vs) same second_scope
scopes (suc (suc k)) us is = cc

pub cuts_there : AreSubTasks flow [] (4 ∷ []) subs
cuts_there = record { sound = sound; firsts_are = refl; beside = refl; scopes_are = scopes }

-- without a cache each fetch is charged
abbrev charge : Charge
charge = record { free = []; persistent = 0 }

abbrev costs : Costs
costs = costs_with charge (pen_of machine 1000)

price_0 : unit_price unit_0 costs ≡ 2
unfolding unit_price static_cost kind_of
price_0 = refl

price_4 : unit_price unit_4 costs ≡ 4
unfolding unit_price static_cost kind_of
price_4 = refl

price_edge : edge_price flow.units (edge_of 0 4 Next) ≡ 0
unfolding kind_of
price_edge = refl

abbrev around : (ℕ → Bool) → LoopGraph
around is_long = graph_with flow nest is_long

-- the first sub-task goes into the second
first_most : (p : Prices) (charged is_long : ℕ → Bool) → IsPriced flow costs p charged is_long → 2 < cap
    → AreMost p charged (around is_long) 0 (Some 4) 2
first_most p charged is_long priced below =
    let own = priced.units unit_0 (0, lit< tt, refl) in
    record {
      inside = inside own;
      into = into own;
    }
  where
    inside : unit_cost p charged (is_long 0) 0 ≤ unit_price unit_0 costs → (es : List Edge)
        → IsWalk (around is_long) (alone 0) es → IsMissed (Some 4) es
        → walk_cost p charged (around is_long) 0 es ≤ 2
    inside own [] walk missed = omega (arith, own, price_0)
    inside own (e ∷ es) walk missed = absurd (missed (inl (ap (λ (d : Edge). d.to) (the_edge e walk.1))))

    into : unit_cost p charged (is_long 0) 0 ≤ unit_price unit_0 costs → (e : Edge) (es : List Edge)
        → IsWalk (around is_long) (alone 0) (e ∷ es)
        → IsMissed (Some 4) es → IsInto (Some 4) e → p.edge e + walk_cost p charged (around is_long) 0 es ≤ 2
    into own e [] walk missed to =
        let is = the_edge e walk.1 in
        let price = priced.edges e walk.1 in
        let same = ap (λ d. edge_price flow.units d) is in
        omega (arith, own, price_0, price, same, price_edge)
    into own e (d ∷ es) walk missed to = absurd (missed (inl (ap (λ (c : Edge). c.to) (the_edge d walk.0.1))))

-- the second has one unit
no_walk : (is_long : ℕ → Bool) (e : Edge) (es : List Edge) → IsWalk (around is_long) (alone 4) (e ∷ es) → ⊥
no_walk is_long e [] walk =
    let is = the_edge e walk.1 in
    let comes = subst (λ d. Comes d.kind d.from d.to (alone 4)) is walk.2 in
    omega (arith, comes)
no_walk is_long e (d ∷ es) walk = no_walk is_long d es walk.0

second_most : (p : Prices) (charged is_long : ℕ → Bool) → IsPriced flow costs p charged is_long → 4 < cap
    → AreMost p charged (around is_long) 4 None 4
second_most p charged is_long priced below =
    let own = priced.units unit_4 (1, lit< tt, refl) in
    record {
      inside = inside own;
      into = λ e es walk missed to. absurd to;
    }
  where
    inside : unit_cost p charged (is_long 4) 4 ≤ unit_price unit_4 costs → (es : List Edge)
        → IsWalk (around is_long) (alone 4) es → IsMissed None es
        → walk_cost p charged (around is_long) 4 es ≤ 4
    inside own [] walk missed = omega (arith, own, price_4)
    inside own (e ∷ es) walk missed = absurd (no_walk is_long e es walk)

-- and some walk costs so much
alone_cost : (p : Prices) (charged is_long : ℕ → Bool) (to : Option ℕ) (unit : FlowUnit) (cost : ℕ)
    → IsPricedExactly flow costs p charged is_long
    → Contains flow.units unit → unit_price unit costs ≡ cost → IsMissed to [] → cost ≡ min cap cost
    → IsCost p charged (around is_long) unit.at to cost
alone_cost p charged is_long to unit cost priced among price missed small = record {
  cost = cost;
  walks = inl (record { edges = []; walk = tt; missed = missed; is = sym (priced.units unit among ∙ price) });
  is = small;
}

first_cost : (p : Prices) (charged is_long : ℕ → Bool) → IsPricedExactly flow costs p charged is_long
    → IsCost p charged (around is_long) 0 (Some 4) 2
first_cost p charged is_long priced =
    alone_cost p charged is_long (Some 4) unit_0 2 priced (0, lit< tt, refl) price_0 (λ meets. meets) refl

second_cost : (p : Prices) (charged is_long : ℕ → Bool) → IsPricedExactly flow costs p charged is_long
    → IsCost p charged (around is_long) 4 None 4
second_cost p charged is_long priced = alone_cost p charged is_long None unit_4 4 priced (1, lit< tt, refl) price_4 tt
    refl

first_bound : IsBound task flow nest subs 1000 0 2
first_bound = record {
  charge = charge;
  is_charge = record { charged = λ at. refl; persistent = refl };
  most = 2;
  longest = record { bound = first_most; attained = first_cost };
  bound_is = refl;
}

second_bound : IsBound task flow nest subs 1000 1 4
second_bound = record {
  charge = charge;
  is_charge = record { charged = λ at. refl; persistent = refl };
  most = 4;
  longest = record { bound = second_most; attained = second_cost };
  bound_is = refl;
}

pub bounds_there : AreBounds task flow nest subs ((2 ∷ 4 ∷ []) ∷ [])
bounds_there = record { points = refl; subs = all_subs; are = all_bounds }
  where
    all_subs : (point : ℕ) → point < 1 → length (bounds_at ((2 ∷ 4 ∷ []) ∷ []) point) ≡ 2
    all_subs zero below = refl
    all_subs (suc point) below = absurd (omega (arith, below))

    all_bounds : (point k : ℕ) → point < 1 → k < 2
        → IsBound task flow nest subs (slice_index (1000 ∷ []) point) k
        (slice_index (bounds_at ((2 ∷ 4 ∷ []) ∷ []) point) k)
    all_bounds zero zero below one = first_bound
    all_bounds zero (suc zero) below one = second_bound
    all_bounds zero (suc (suc k)) below one = absurd (omega (arith, one))
    all_bounds (suc point) k below one = absurd (omega (arith, below))
