-- The graph of code keeps what the nest and the longest walk ask of it.
use Rattle.std.proofs.Common.{◌≡◌, refl, sym, ap, subst, ◌∙◌, ℕ, zero, suc, ◌+◌, Bool, true, false, List, [], ◌∷◌, get_or, arith, ◌⊎◌, inl, inr, Option, Some, None}
use Rattle.std.specs.Prelude.{◌&&◌, ◌||◌, ◌==◌, not, is_none, if◌then◌else◌}
use Rattle.std.specs.List.{Contains, list_any}
use Rattle.std.proofs.lemmas.List.Folds.{list_any_at}
use Rattle.visa_io.specs.declared.records.Code.{Code}
use Rattle.mips_isa.specs.Kinds.{kind_of}
use Rattle.mips_isa.specs.declared.instr.Instr.{Instr}
use Rattle.mips_isa.specs.declared.instr.Kind.{Kind}
use Rattle.mips_isa.specs.declared.instr.Kind.TheVariants as kind
use Rattle.mips_isa.specs.Prediction.{single_edge_of}
use Rattle.flow_graph.specs.Code.{instr_at, is_code, is_control_at, is_control_instr}
use Rattle.flow_graph.specs.Edges.{branch_edges, call_edges, edge_of, edge_to, edges_by, edges_of_kind, target_of}
use Rattle.flow_graph.specs.Faults.{edges_if, is_faulty, is_reserved, is_word_of, leads_from, leaves_code, own_edges}
use Rattle.flow_graph.specs.Flow.{Flow, Has, HasShape, IsGraph}
use Rattle.flow_graph.specs.Reached.{IsEdge, IsUnitOf, IsWay, Leads, Reached, Returns, is_any, is_inner}
use Rattle.flow_graph.specs.declared.fault.FlowFault.TheVariants.{Reserved}
use Rattle.flow_graph.specs.declared.parts.Edge.{Edge}
use Rattle.flow_graph.specs.declared.parts.EdgeKind.{EdgeKind}
use Rattle.flow_graph.specs.declared.parts.EdgeKind.TheVariants.{Next, Taken, Call, Return, Over}
use Rattle.flow_graph.specs.declared.parts.Unit.{Unit as FlowUnit}
use Rattle.flow_graph.proofs.Unique.{one_way}
use Rattle.loop_regions.specs.Nested.{IsWhole}
use Rattle.loop_regions.specs.Ways.{addresses_of}
use Rattle.loop_regions.proofs.FreeWays.{mapped}
use Rattle.loop_regions.proofs.Visits.{same_number}
use Rattle.path_wcet.specs.Longest.{AreCalls, IsOf}
use Rattle.path_wcet.specs.Longest.IsOf.{First, Further}
use Rattle.flow_graph.proofs.Reaching.{reached_here, reached_on}

no : {P : Type 0} → true ≡ false → P
no e = absurd (let b : ⊥ = cc in b)

none_of : {P : Type 0} (e : Edge) → Contains [] e → P
none_of e c = absurd (omega (arith, c.1))

one_of : (a e : Edge) → Contains (a ∷ []) e → a ≡ e
one_of a e (zero, below, is) = is
one_of a e (suc k, below, is) = absurd (omega (arith, below))

two_of : (a b e : Edge) → Contains (a ∷ b ∷ []) e → (a ≡ e) ⊎ (b ≡ e)
two_of a b e (zero, below, is) = inl is
two_of a b e (suc zero, below, is) = inr is
two_of a b e (suc (suc k), below, is) = absurd (omega (arith, below))

-- what a call edge tells of the edges of its unit
pub record IsCallIn (es : List Edge) (target : Option ℕ) (e : Edge) : Type 0 where
  pub over : Contains es (edge_of e.from (e.from + 8) Over)
  pub to : target ≡ Some e.to

abbrev kind_in : Edge → EdgeKind
kind_in e = e.kind

jump_no_call : {P : Type 0} (u : ℕ) (o : Option ℕ) (e : Edge) → Contains (edge_to u Taken o) e → (e.kind ≡ Call) ⊎ (e.kind ≡ Return) → P
jump_no_call u None e c k = none_of e c
jump_no_call u (Some t) e c (inl k) = absurd (let bad : Taken ≡ Call = ap kind_in (one_of (edge_of u t Taken) e c) ∙ k in cc)
jump_no_call u (Some t) e c (inr k) = absurd (let bad : Taken ≡ Return = ap kind_in (one_of (edge_of u t Taken) e c) ∙ k in cc)

next_no_call : {P : Type 0} (u v : ℕ) (e : Edge) → edge_of u v Next ≡ e → (e.kind ≡ Call) ⊎ (e.kind ≡ Return) → P
next_no_call u v e is (inl k) = absurd (let bad : Next ≡ Call = ap kind_in is ∙ k in cc)
next_no_call u v e is (inr k) = absurd (let bad : Next ≡ Return = ap kind_in is ∙ k in cc)

taken_no_call : {P : Type 0} (u v : ℕ) (e : Edge) → edge_of u v Taken ≡ e → (e.kind ≡ Call) ⊎ (e.kind ≡ Return) → P
taken_no_call u v e is (inl k) = absurd (let bad : Taken ≡ Call = ap kind_in is ∙ k in cc)
taken_no_call u v e is (inr k) = absurd (let bad : Taken ≡ Return = ap kind_in is ∙ k in cc)

branch_no_call : {P : Type 0} (u : ℕ) (lone : Option Bool) (o : Option ℕ) (e : Edge) → Contains (branch_edges u lone (edge_to u Taken o)) e → (e.kind ≡ Call) ⊎ (e.kind ≡ Return) → P
branch_no_call u None None e c k = next_no_call u (u + 8) e (one_of (edge_of u (u + 8) Next) e c) k
branch_no_call {P} u None (Some t) e c k = elim (two_of (edge_of u (u + 8) Next) (edge_of u t Taken) e c) as (λ q. P) [ inl is ↦ next_no_call u (u + 8) e is k | inr is ↦ taken_no_call u t e is k ]
branch_no_call u (Some true) o e c k = jump_no_call u o e c k
branch_no_call u (Some false) o e c k = next_no_call u (u + 8) e (one_of (edge_of u (u + 8) Next) e c) k

call_in : (u : ℕ) (o : Option ℕ) (e : Edge) → Contains (call_edges u o) e → e.kind ≡ Call → IsCallIn (call_edges u o) o e
call_in u None e c k = none_of e c
call_in u (Some t) e c k = by_edge (two_of (edge_of u t Call) (edge_of u (u + 8) Over) e c)
  where
    by_edge : (edge_of u t Call ≡ e) ⊎ (edge_of u (u + 8) Over ≡ e) → IsCallIn (call_edges u (Some t)) (Some t) e
    by_edge (inl is) = record {
      over = subst (λ v. Contains (call_edges u (Some t)) (edge_of v (v + 8) Over)) (ap (λ (x : Edge). x.from) is) (1, omega arith, refl);
      to = ap (λ (x : Edge). let q : Option ℕ = Some x.to in q) is;
    }
    by_edge (inr is) = absurd (let bad : Over ≡ Call = ap kind_in is ∙ k in cc)

call_no_return : {P : Type 0} (u : ℕ) (o : Option ℕ) (e : Edge) → Contains (call_edges u o) e → e.kind ≡ Return → P
call_no_return u None e c k = none_of e c
call_no_return {P} u (Some t) e c k = elim (two_of (edge_of u t Call) (edge_of u (u + 8) Over) e c) as (λ q. P) [
  | inl is ↦ absurd (let bad : Call ≡ Return = ap kind_in is ∙ k in cc)
  | inr is ↦ absurd (let bad : Over ≡ Return = ap kind_in is ∙ k in cc)
]

calls_of : (q : Kind) (i : Instr) (u : ℕ) (e : Edge) → Contains (edges_of_kind q i u) e → e.kind ≡ Call → IsCallIn (edges_of_kind q i u) (target_of i u) e
calls_of kind.Call i u e c k = call_in u (target_of i u) e c k
calls_of kind.Branch i u e c k = branch_no_call u (single_edge_of i) (target_of i u) e c (inl k)
calls_of kind.Jump i u e c k = jump_no_call u (target_of i u) e c (inl k)
calls_of kind.Return i u e c k = none_of e c
calls_of kind.Indirect i u e c k = none_of e c
calls_of kind.Stop i u e c k = none_of e c
calls_of kind.Plain i u e c k = next_no_call u (u + 4) e (one_of (edge_of u (u + 4) Next) e c) (inl k)
calls_of kind.Mul i u e c k = next_no_call u (u + 4) e (one_of (edge_of u (u + 4) Next) e c) (inl k)
calls_of kind.Div i u e c k = next_no_call u (u + 4) e (one_of (edge_of u (u + 4) Next) e c) (inl k)
calls_of kind.Load i u e c k = next_no_call u (u + 4) e (one_of (edge_of u (u + 4) Next) e c) (inl k)
calls_of kind.Store i u e c k = next_no_call u (u + 4) e (one_of (edge_of u (u + 4) Next) e c) (inl k)

no_returns : {P : Type 0} (q : Kind) (i : Instr) (u : ℕ) (e : Edge) → Contains (edges_of_kind q i u) e → e.kind ≡ Return → P
no_returns kind.Call i u e c k = call_no_return u (target_of i u) e c k
no_returns kind.Branch i u e c k = branch_no_call u (single_edge_of i) (target_of i u) e c (inr k)
no_returns kind.Jump i u e c k = jump_no_call u (target_of i u) e c (inr k)
no_returns kind.Return i u e c k = none_of e c
no_returns kind.Indirect i u e c k = none_of e c
no_returns kind.Stop i u e c k = none_of e c
no_returns kind.Plain i u e c k = next_no_call u (u + 4) e (one_of (edge_of u (u + 4) Next) e c) (inr k)
no_returns kind.Mul i u e c k = next_no_call u (u + 4) e (one_of (edge_of u (u + 4) Next) e c) (inr k)
no_returns kind.Div i u e c k = next_no_call u (u + 4) e (one_of (edge_of u (u + 4) Next) e c) (inr k)
no_returns kind.Load i u e c k = next_no_call u (u + 4) e (one_of (edge_of u (u + 4) Next) e c) (inr k)
no_returns kind.Store i u e c k = next_no_call u (u + 4) e (one_of (edge_of u (u + 4) Next) e c) (inr k)

-- an edge along which a unit leads on is one of those of its instruction
pub record IsLed (code : Code) (e : Edge) : Type 0 where
  pub instr : Instr
  pub stands : instr_at code e.from ≡ Some instr
  pub among : Contains (edges_of_kind (kind_of instr) instr e.from) e
  pub back : (d : Edge) → d.from ≡ e.from → Contains (edges_of_kind (kind_of instr) instr e.from) d → Leads code d

led_by : (code : Code) (e : Edge) → Leads code e → IsLed code e
unfolding leads_from edges_by
led_by code e leads = by_fault (is_faulty code e.from) refl (instr_at code e.from) refl leads
  where
    by_fault : (b : Bool) → is_faulty code e.from ≡ b → (o : Option Instr) → instr_at code e.from ≡ o → Contains (if b then [] else edges_if o e.from) e → IsLed code e
    by_fault true faulty o stands c = none_of e c
    by_fault false sound None stands c = none_of e c
    by_fault false sound (Some i) stands c = record {
      instr = i;
      stands = stands;
      among = c;
      back = λ d from there.
          let here : leads_from code e.from ≡ edges_by i e.from = ap (λ (b : Bool). let l : List Edge = (if b then [] else own_edges code e.from) in l) sound ∙ ap (λ (o : Option Instr). edges_if o e.from) stands in
          subst (λ v. Contains (leads_from code v) d) (sym from) (subst (λ (l : List Edge). Contains l d) (sym here) there);
    }

reached_along : (code : Code) (entry : ℕ) (e : Edge) → Reached code entry e.from → Leads code e → Reached code entry e.to
unfolding IsWay
reached_along code entry e reached leads = record { us = e.from ∷ reached.us; way = (record { kind = e.kind; is_asked = refl; leads = leads }, reached.way) }

-- code stands where a way leads
or_false : (a b : Bool) → (a || b) ≡ false → b ≡ false
or_false true b is = no is
or_false false b is = is

not_false : (b : Bool) → not b ≡ false → b ≡ true
not_false true is = refl
not_false false is = no is

sound_unit : (code : Code) (u : ℕ) → is_faulty code u ≡ false → leaves_code code u ≡ false
sound_unit code u is = or_false _ (leaves_code code u) is

leads_to_code : (code : Code) (e : Edge) → Leads code e → is_code code e.to ≡ true
unfolding leads_from
leads_to_code code e leads = by_fault (is_faulty code e.from) refl leads
  where
    by_fault : (b : Bool) → is_faulty code e.from ≡ b → Contains (if b then [] else own_edges code e.from) e → is_code code e.to ≡ true
    by_fault true faulty c = none_of e c
    by_fault false sound c =
        let none = or_false (is_control_at code e.from && not (is_code code (e.from + 4))) (list_any (λ d. not (is_code code d.to)) (own_edges code e.from)) (sound_unit code e.from sound) in
        by_code (is_code code e.to) refl c none
      where
        by_code : (b : Bool) → is_code code e.to ≡ b → Contains (own_edges code e.from) e → list_any (λ d. not (is_code code d.to)) (own_edges code e.from) ≡ false → b ≡ true
        by_code true there c none = refl
        by_code false off c none =
            let any = list_any_at (λ d. not (is_code code d.to)) (own_edges code e.from) c.0 e c.1 (ap (λ (d : Edge). not (is_code code d.to)) c.2 ∙ ap not off) in
            no (sym any ∙ none)

reached_code : (code : Code) (entry u : ℕ) (us : List ℕ) → IsWay code is_any entry (u ∷ us) → is_code code u ≡ true
unfolding IsWay
reached_code code entry u [] way = way.1
reached_code code entry u (v ∷ us) way = leads_to_code code (edge_of v u way.0.kind) way.0.leads

first_word : (code : Code) (u : ℕ) → is_word_of code u u ≡ true
first_word code u = ap (λ (b : Bool). b || (is_control_at code u && (u == u + 4))) (same_number u)

-- an instruction stands at each unit
unit_stands : (code : Code) (entry : ℕ) (g : Flow) (u : ℕ) → IsGraph code entry g → Reached code entry u → (i : Instr) × (instr_at code u ≡ Some i)
unfolding Has
unit_stands code entry g u is reached = by_instr (instr_at code u) refl (is_reserved code u) refl
  where
    by_instr : (o : Option Instr) → instr_at code u ≡ o → (b : Bool) → is_reserved code u ≡ b → (i : Instr) × (instr_at code u ≡ Some i)
    by_instr (Some i) stands b reserved = (i, stands)
    by_instr None stands true reserved = absurd (is.sound (Reserved u) (record { unit = u; reached = reached; has = first_word code u }, reserved))
    by_instr None stands false reserved =
        let there = reached_code code entry u reached.us reached.way in
        no (sym (ap (λ (b : Bool). b && is_none (instr_at code u)) there ∙ ap is_none stands) ∙ reserved)

-- and so it is a unit of the graph
pub record IsUnitThere (g : Flow) (u : ℕ) (i : Instr) : Type 0 where
  pub unit : FlowUnit
  pub among : Contains g.units unit
  pub at : unit.at ≡ u
  pub first : unit.first ≡ i

unit_there : (code : Code) (entry : ℕ) (g : Flow) (u : ℕ) → IsGraph code entry g → Reached code entry u → (i : Instr) → instr_at code u ≡ Some i → IsUnitThere g u i
unit_there code entry g u is reached i stands = by_control (is_control_instr i) refl
  where
    by_control : (b : Bool) → is_control_instr i ≡ b → IsUnitThere g u i
    by_control true control =
        let unit : FlowUnit = record { at = u; length = 8; first = i; slot = instr_at code (u + 4) } in
        record { unit = unit; among = (is.units_are unit).1 (record { reached = reached; first = stands; shape = subst (HasShape code unit) (sym control) (refl, refl) }); at = refl; first = refl }
    by_control false plain =
        let unit : FlowUnit = record { at = u; length = 4; first = i; slot = None } in
        record { unit = unit; among = (is.units_are unit).1 (record { reached = reached; first = stands; shape = subst (HasShape code unit) (sym plain) (refl, refl) }); at = refl; first = refl }

address_there : (code : Code) (entry : ℕ) (g : Flow) (u : ℕ) → IsGraph code entry g → Reached code entry u → Contains (addresses_of g.units) u
address_there code entry g u is reached =
    let i = unit_stands code entry g u is reached in
    let t = unit_there code entry g u is reached i.0 i.1 in
    subst (Contains (addresses_of g.units)) t.at (mapped (λ (unit : FlowUnit). unit.at) g.units t.unit t.among)

leads_of : (code : Code) (entry : ℕ) (e : Edge) → IsEdge code entry e → (is_inner e.kind ≡ true) ⊎ (e.kind ≡ Call) → Leads code e
leads_of code entry e is k = by_join is.joins k
  where
    by_join : Leads code e ⊎ ((e.kind ≡ Return) × Returns code entry e.from e.to) → (is_inner e.kind ≡ true) ⊎ (e.kind ≡ Call) → Leads code e
    by_join (inl leads) k = leads
    by_join (inr r) (inl inner) = no (sym inner ∙ ap is_inner r.0)
    by_join (inr r) (inr called) = absurd (let bad : Call ≡ Return = sym called ∙ r.0 in cc)

pub whole_graph : (code : Code) (entry : ℕ) (g : Flow) → IsGraph code entry g → IsWhole g
whole_graph code entry g is = record {
  units = is.units_rise;
  edges = λ i j d less below back. one_way (get_or g.edges i d) (get_or g.edges j d) (is.edges_rise i j d less below) back;
  functions = is.functions_rise;
  joined = λ e c k.
      let edge = (is.edges_are e).0 c in
      record { leaves = address_there code entry g e.from is edge.reached; enters = address_there code entry g e.to is (reached_along code entry e edge.reached (leads_of code entry e edge k)) };
}

some_same : (a b : ℕ) (o : Option ℕ) → o ≡ Some a → o ≡ Some b → a ≡ b
some_same a b o p q = let e : Some a ≡ Some b = sym p ∙ q in cc

-- an edge over a call goes to its return point
edge_is : (a b e : Edge) → a ≡ e → a.kind ≡ b.kind → e.kind ≡ b.kind
edge_is a b e is same = ap kind_in (sym is) ∙ same

jump_taken : (u : ℕ) (o : Option ℕ) (e : Edge) → Contains (edge_to u Taken o) e → e.kind ≡ Taken
jump_taken u None e c = none_of e c
jump_taken u (Some t) e c = ap kind_in (sym (one_of (edge_of u t Taken) e c))

branch_inner : (u : ℕ) (lone : Option Bool) (o : Option ℕ) (e : Edge) → Contains (branch_edges u lone (edge_to u Taken o)) e → (e.kind ≡ Next) ⊎ (e.kind ≡ Taken)
branch_inner u None None e c = inl (ap kind_in (sym (one_of (edge_of u (u + 8) Next) e c)))
branch_inner u None (Some t) e c = elim (two_of (edge_of u (u + 8) Next) (edge_of u t Taken) e c) [ inl is ↦ inl (ap kind_in (sym is)) | inr is ↦ inr (ap kind_in (sym is)) ]
branch_inner u (Some true) o e c = inr (jump_taken u o e c)
branch_inner u (Some false) o e c = inl (ap kind_in (sym (one_of (edge_of u (u + 8) Next) e c)))

no_over : {P : Type 0} (e : Edge) → (e.kind ≡ Next) ⊎ (e.kind ≡ Taken) → e.kind ≡ Over → P
no_over e (inl next) over = absurd (let bad : Next ≡ Over = sym next ∙ over in cc)
no_over e (inr taken) over = absurd (let bad : Taken ≡ Over = sym taken ∙ over in cc)

call_over : (u : ℕ) (o : Option ℕ) (e : Edge) → Contains (call_edges u o) e → e.kind ≡ Over → e.to ≡ e.from + 8
call_over u None e c over = none_of e c
call_over u (Some t) e c over = by_edge (two_of (edge_of u t Call) (edge_of u (u + 8) Over) e c)
  where
    by_edge : (edge_of u t Call ≡ e) ⊎ (edge_of u (u + 8) Over ≡ e) → e.to ≡ e.from + 8
    by_edge (inl is) = absurd (let bad : Call ≡ Over = ap kind_in is ∙ over in cc)
    by_edge (inr is) = sym (ap (λ (x : Edge). x.to) is) ∙ ap (λ (x : Edge). x.from + 8) is

next_is : (u v : ℕ) (e : Edge) → Contains (edge_of u v Next ∷ []) e → (e.kind ≡ Next) ⊎ (e.kind ≡ Taken)
next_is u v e c = inl (ap kind_in (sym (one_of (edge_of u v Next) e c)))

points_of : (q : Kind) (i : Instr) (u : ℕ) (e : Edge) → Contains (edges_of_kind q i u) e → e.kind ≡ Over → e.to ≡ e.from + 8
points_of kind.Call i u e c k = call_over u (target_of i u) e c k
points_of kind.Branch i u e c k = no_over e (branch_inner u (single_edge_of i) (target_of i u) e c) k
points_of kind.Jump i u e c k = no_over e (inr (jump_taken u (target_of i u) e c)) k
points_of kind.Return i u e c k = none_of e c
points_of kind.Indirect i u e c k = none_of e c
points_of kind.Stop i u e c k = none_of e c
points_of kind.Plain i u e c k = no_over e (next_is u (u + 4) e c) k
points_of kind.Mul i u e c k = no_over e (next_is u (u + 4) e c) k
points_of kind.Div i u e c k = no_over e (next_is u (u + 4) e c) k
points_of kind.Load i u e c k = no_over e (next_is u (u + 4) e c) k
points_of kind.Store i u e c k = no_over e (next_is u (u + 4) e c) k

-- the units of a function of the graph are those of the function of the code
member_of : (code : Code) (entry : ℕ) (g : Flow) → IsGraph code entry g → (f : ℕ) → is_code code f ≡ true → (u : ℕ) → IsOf g f u → IsUnitOf code f u
member_of code entry g is f there u First = reached_here code is_inner f there
member_of code entry g is f there u (Further e among inner before) =
    reached_on code is_inner f e.from e.to (member_of code entry g is f there e.from before) (record { kind = e.kind; is_asked = inner; leads = leads_of code entry e ((is.edges_are e).0 among) (inl inner) })

-- each unit is one of a function
pub record IsOfSome (g : Flow) (u : ℕ) : Type 0 where
  pub function : ℕ
  pub among : Contains g.functions function
  pub of : IsOf g function u

of_some : (code : Code) (entry : ℕ) (g : Flow) → IsGraph code entry g → (us : List ℕ) (u : ℕ) → IsWay code is_any entry (u ∷ us) → IsOfSome g u
unfolding IsWay
of_some code entry g is [] u way = record { function = u; among = (is.functions_are u).1 (inl (way.0, way.1)); of = First }
of_some code entry g is (v ∷ us) u way = by_kind way.0.kind way.0.leads (of_some code entry g is us v way.1)
  where
    reached : Reached code entry v
    reached = record { us = us; way = way.1 }

    inside : (k : EdgeKind) → is_inner k ≡ true → Leads code (edge_of v u k) → IsOfSome g v → IsOfSome g u
    inside k inner leads s = record { function = s.function; among = s.among; of = Further (edge_of v u k) ((is.edges_are (edge_of v u k)).1 (record { reached = reached; joins = inl leads })) inner s.of }

    by_kind : (k : EdgeKind) → Leads code (edge_of v u k) → IsOfSome g v → IsOfSome g u
    by_kind Next leads s = inside Next refl leads s
    by_kind Taken leads s = inside Taken refl leads s
    by_kind Over leads s = inside Over refl leads s
    by_kind Call leads s = record { function = u; among = (is.functions_are u).1 (inr (record { caller = v; reached = reached; calls = leads })); of = First }
    by_kind Return leads s = let l = led_by code (edge_of v u Return) leads in no_returns (kind_of l.instr) l.instr v (edge_of v u Return) l.among refl

pub calls_graph : (code : Code) (entry : ℕ) (g : Flow) → IsGraph code entry g → AreCalls g
calls_graph code entry g is = record { points = points; over = over; one = one; functions = functions; returns = returns; back = back; reached = reached }
  where
    points : (o : Edge) → Contains g.edges o → o.kind ≡ Over → o.to ≡ o.from + 8
    points o among over =
        let l = led_by code o (leads_of code entry o ((is.edges_are o).0 among) (inl (ap is_inner over))) in
        points_of (kind_of l.instr) l.instr o.from o l.among over

    back : (c : Edge) → Contains g.edges c → c.kind ≡ Call → (unit : FlowUnit) → Contains g.units unit → kind_of unit.first ≡ kind.Return → IsOf g c.to unit.at → Contains g.edges (edge_of unit.at (c.from + 8) Return)
    back c among called unit there returns of =
        let edge = (is.edges_are c).0 among in
        let leads = leads_of code entry c edge (inr called) in
        let u = (is.units_are unit).0 there in
        (is.edges_are (edge_of unit.at (c.from + 8) Return)).1 (record {
          reached = u.reached;
          joins = inr (
            refl,
            record {
              function = c.to;
              caller = c.from;
              reached = edge.reached;
              calls = subst (λ (k : EdgeKind). Leads code (edge_of c.from c.to k)) called leads;
              member = member_of code entry g is c.to (leads_to_code code c leads) unit.at of;
              instr = unit.first;
              at = u.first;
              is_return = returns;
              point = refl;
            },
          );
        })

    reached : (unit : FlowUnit) → Contains g.units unit → (f : ℕ) × Contains g.functions f × IsOf g f unit.at
    reached unit there =
        let r = ((is.units_are unit).0 there).reached in
        let s = of_some code entry g is r.us unit.at r.way in
        (s.function, s.among, s.of)

    over : (c : Edge) → Contains g.edges c → c.kind ≡ Call → Contains g.edges (edge_of c.from (c.from + 8) Over)
    over c among called =
        let l = led_by code c (leads_of code entry c ((is.edges_are c).0 among) (inr called)) in
        let call = calls_of (kind_of l.instr) l.instr c.from c l.among called in
        (is.edges_are (edge_of c.from (c.from + 8) Over)).1 (record { reached = ((is.edges_are c).0 among).reached; joins = inl (l.back (edge_of c.from (c.from + 8) Over) refl call.over) })

    one : (c d : Edge) → Contains g.edges c → Contains g.edges d → c.kind ≡ Call → d.kind ≡ Call → c.from ≡ d.from → c.to ≡ d.to
    one c d first second called calls same =
        let l = led_by code c (leads_of code entry c ((is.edges_are c).0 first) (inr called)) in
        let m = led_by code d (leads_of code entry d ((is.edges_are d).0 second) (inr calls)) in
        let instr : l.instr ≡ m.instr = (let e : Some l.instr ≡ Some m.instr = sym l.stands ∙ ap (instr_at code) same ∙ m.stands in cc) in
        let a = (calls_of (kind_of l.instr) l.instr c.from c l.among called).to in
        let b = (calls_of (kind_of m.instr) m.instr d.from d m.among calls).to in
        some_same c.to d.to (target_of l.instr c.from) a (ap (λ (i : Instr). target_of i c.from) instr ∙ ap (target_of m.instr) same ∙ b)

    functions : (c : Edge) → Contains g.edges c → c.kind ≡ Call → Contains g.functions c.to
    functions c among called =
        let edge = (is.edges_are c).0 among in
        (is.functions_are c.to).1 (inr (record { caller = c.from; reached = edge.reached; calls = subst (λ (k : EdgeKind). Leads code (edge_of c.from c.to k)) called (leads_of code entry c edge (inr called)) }))

    returns : (b : Edge) → Contains g.edges b → b.kind ≡ Return → (unit : FlowUnit) × Contains g.units unit × (unit.at ≡ b.from) × (kind_of unit.first ≡ kind.Return)
    returns b among is_return =
        let edge = (is.edges_are b).0 among in
        by_join edge.reached edge.joins
      where
        by_join : Reached code entry b.from → Leads code b ⊎ ((b.kind ≡ Return) × Returns code entry b.from b.to) → (unit : FlowUnit) × Contains g.units unit × (unit.at ≡ b.from) × (kind_of unit.first ≡ kind.Return)
        by_join reached (inl leads) = let l = led_by code b leads in no_returns (kind_of l.instr) l.instr b.from b l.among is_return
        by_join reached (inr r) =
            let back = r.1 in
            let t = unit_there code entry g b.from is reached back.instr back.at in
            (t.unit, t.among, t.at, ap kind_of t.first ∙ back.is_return)
