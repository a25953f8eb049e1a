-- What the bounds ask of a graph, from what the graph of code is.
use Rattle.std.proofs.Common.{◌≡◌, ◌≢◌, ◌∙◌, refl, sym, ap, subst, ℕ, zero, suc, ◌+◌, Bool, true, false, List, [], ◌∷◌, length, arith, ◌⊎◌, inl, inr}
use Rattle.std.specs.Prelude.{◌==◌, if◌then◌else◌, Option, Some, None, slice_get, slice_index}
use Rattle.std.specs.List.{Contains}
use Rattle.std.proofs.lemmas.Bool.{eqb-true}
use Rattle.visa_io.specs.declared.records.Code.{Code}
use Rattle.mips_isa.specs.Kinds.{kind_of, is_control}
use Rattle.mips_isa.specs.declared.instr.Instr.{Instr}
use Rattle.mips_isa.specs.declared.instr.Kind.TheVariants as kind
use Rattle.mips_isa.specs.Prediction.{single_edge_of}
use Rattle.flow_graph.specs.Code.{instr_at}
use Rattle.flow_graph.specs.Edges.{branch_edges, edge_of, edge_to, edges_by, edges_of_kind, target_of as named_target}
use Rattle.flow_graph.specs.Faults.{edges_if}
use Rattle.flow_graph.specs.Flow.{Flow, Has, IsGraph, IsUnitsOf}
use Rattle.flow_graph.specs.Reached.{CallsAt, IsEdge, IsFunction, IsReached, IsUnitOf, Leads, Reached, is_any, is_inner}
use Rattle.flow_graph.specs.declared.fault.FlowFault.TheVariants.{Recursion}
use Rattle.flow_graph.specs.declared.parts.Edge.{Edge}
use Rattle.flow_graph.specs.declared.parts.EdgeKind.{EdgeKind}
use Rattle.flow_graph.specs.declared.parts.EdgeKind.TheVariants.{Next, Taken, Call, Return, Over}
use Rattle.loop_regions.proofs.Visits.{same_number}
use Rattle.remaining_wcet.specs.Ways.{AreUnits}
use Rattle.run_law.specs.Instructions.{is_direct}
use Rattle.run_law.specs.Program.{Flowing, IsGraphOf, Program}
use Rattle.run_law.proofs.Calling.{call_among, none_of, one_of, two_of}
use Rattle.run_law.proofs.Coded.{same_instr}
use Rattle.run_law.proofs.Flows.{flowing_of, leads_to_code, own_of, reached_along, reached_first}
use Rattle.subtask_cut.specs.Functions.{AreFunctions, AreOver, IsPlain}
use Rattle.walked_jobs.specs.Machine.{kind_if, words_of}
use Rattle.subtask_cut.specs.Ways.{units_among}
use Rattle.walked_jobs.specs.Units.{IsLongAtUnits, units_of}

-- an edge of the graph is one of the code
edge_is : (p : Program) (g : Flow) → IsGraph p.code p.entry g → IsGraphOf p g → (e : Edge) → Contains p.graph.edges e
    → IsEdge p.code p.entry e
edge_is p g is of e among = (is.edges_are e).0 (subst (λ es. Contains es e) of.edges among)

-- the edges of a unit, by its instruction
own_by : (p : Program) (f : Flowing p) (e : Edge) → Reached p.code p.entry e.from → Leads p.code e
    → (i : Instr) × (instr_at p.code e.from ≡ Some i) × Contains (edges_by i e.from) e
own_by p f e reached leads =
    let good = f.good e.from reached in
    (good.instr, good.stands, subst (λ es. Contains es e) (ap (λ o. edges_if o e.from) good.stands) (own_of p.code e leads).1)

sort_is : (p : Program) (u : ℕ) (i : Instr) → instr_at p.code u ≡ Some i → (words_of p.code).sort u ≡ kind_of i
sort_is p u i stands = ap kind_if stands

control_is : (p : Program) (f : Flowing p) (u : ℕ) → Reached p.code p.entry u → p.graph.is_long u ≡ false
    → is_control ((words_of p.code).sort u) ≡ false
control_is p f u reached short =
    let good = f.good u reached in
    ap is_control (sort_is p u good.instr good.stands) ∙ sym (f.long u good.instr reached good.stands) ∙ short

over_leads : (p : Program) → Flowing p → (u g : ℕ) → Reached p.code p.entry u → CallsAt p.code u g
    → Leads p.code (edge_of u (u + 8) Over)
over_leads p f u g reached calls =
    let own = own_by p f (edge_of u g Call) reached calls in
    let good = f.good u reached in
    let direct = ap is_direct (same_instr p.code u own.0 good.instr own.1 good.stands) ∙ good.direct in
    f.leads u own.0 (edge_of u (u + 8) Over) reached own.1 refl (call_among own.0 u g direct own.2).over

-- an edge leads to a unit
to_unit : (p : Program) (f : Flowing p) (e : Edge) → IsEdge p.code p.entry e → Reached p.code p.entry e.to
to_unit p f e is = elim is.joins [
  | inl leads ↦ f.also e is.reached leads
  | inr r ↦
      let returns = r.1 in
      let over = over_leads p f returns.caller returns.function returns.reached returns.calls in
      subst (λ u. Reached p.code p.entry u) (sym returns.point) (f.also (edge_of returns.caller (returns.caller + 8) Over) returns.reached over)
]

-- a branch leads along Next and Taken edges, a return along Return edges
jump_kind : (u : ℕ) (e : Edge) (o : Option ℕ) → Contains (edge_to u Taken o) e → (e.kind ≡ Next) ⊎ (e.kind ≡ Taken)
jump_kind u e None among = absurd (none_of e among)
jump_kind u e (Some t) among = inr (ap (λ (d : Edge). d.kind) (one_of (edge_of u t Taken) e among))

branch_kind : (u : ℕ) (e : Edge) (lone : Option Bool) (o : Option ℕ)
    → Contains (branch_edges u lone (edge_to u Taken o)) e → (e.kind ≡ Next) ⊎ (e.kind ≡ Taken)
branch_kind u e None None among = inl (ap (λ (d : Edge). d.kind) (one_of (edge_of u (u + 8) Next) e among))
branch_kind u e None (Some t) among = elim (two_of (edge_of u (u + 8) Next) (edge_of u t Taken) e among) as (λ q. (e.kind ≡ Next) ⊎ (e.kind ≡ Taken)) [
  | inl same ↦ inl (ap (λ (d : Edge). d.kind) same)
  | inr same ↦ inr (ap (λ (d : Edge). d.kind) same)
]
branch_kind u e (Some true) o among = jump_kind u e o among
branch_kind u e (Some false) o among = inl (ap (λ (d : Edge). d.kind) (one_of (edge_of u (u + 8) Next) e among))

forks_by : (i : Instr) (e : Edge) → kind_of i ≡ kind.Branch → Contains (edges_by i e.from) e
    → (e.kind ≡ Next) ⊎ (e.kind ≡ Taken)
unfolding edges_by
forks_by i e is among = branch_kind e.from e (single_edge_of i) (named_target i e.from) (subst (λ k. Contains (edges_of_kind k i e.from) e) is among)

returns_by : (i : Instr) (e : Edge) {P : Type 0} → kind_of i ≡ kind.Return → Contains (edges_by i e.from) e → P
unfolding edges_by
returns_by i e is among = absurd (none_of e (subst (λ k. Contains (edges_of_kind k i e.from) e) is among))

forks_at : (p : Program) (f : Flowing p) (e : Edge) → IsEdge p.code p.entry e
    → (words_of p.code).sort e.from ≡ kind.Branch → (e.kind ≡ Next) ⊎ (e.kind ≡ Taken)
forks_at p f e is branch = elim is.joins [
  | inl leads ↦ let own = own_by p f e is.reached leads in forks_by own.0 e (sym (sort_is p e.from own.0 own.1) ∙ branch) own.2
  | inr r ↦
      let returns = r.1 in
      absurd (let clash : kind.Branch ≡ kind.Return = sym branch ∙ sort_is p e.from returns.instr returns.at ∙ returns.is_return in cc)
]

returns_at : (p : Program) (f : Flowing p) (e : Edge) → IsEdge p.code p.entry e
    → (words_of p.code).sort e.from ≡ kind.Return → e.kind ≡ Return
returns_at p f e is return = elim is.joins [
  | inl leads ↦ let own = own_by p f e is.reached leads in returns_by own.0 e (sym (sort_is p e.from own.0 own.1) ∙ return) own.2
  | inr r ↦ r.0
]

pub units_are : (p : Program) (g : Flow) → IsGraph p.code p.entry g → IsGraphOf p g → IsLongAtUnits p
    → AreUnits p.graph (words_of p.code) p.entry
units_are p g is of long =
    let f = flowing_of p g is of in
    record {
      first = λ short. control_is p f p.entry f.entry.1 short;
      short = λ e among short. control_is p f e.to (to_unit p f e (edge_is p g is of e among)) short;
      slot = λ u is_long.
          let reached = long u is_long in
          let good = f.good u reached in
          let slot = good.slot (sym (f.long u good.instr reached good.stands) ∙ is_long) in
          ap is_control (sort_is p (u + 4) slot.0 slot.1) ∙ slot.2;
      forks = λ e among branch. forks_at p f e (edge_is p g is of e among) branch;
      returns = λ e among return. returns_at p f e (edge_is p g is of e among) return;
    }

-- the units of a function
abbrev AreListed : Code → List ℕ → List (List ℕ) → Type 0
AreListed code hs uss = (k : ℕ) (us : List ℕ) → slice_get uss k ≡ Some us → IsUnitsOf code (slice_index hs k) us

rest_listed : (code : Code) (h : ℕ) (hs : List ℕ) (us : List ℕ) (uss : List (List ℕ))
    → AreListed code (h ∷ hs) (us ∷ uss) → AreListed code hs uss
rest_listed code h hs us uss listed = λ k vs is. listed (suc k) vs is

units_right : (code : Code) (hs : List ℕ) (uss : List (List ℕ)) (f u : ℕ) → AreListed code hs uss
    → Contains (units_among hs uss f) u → IsUnitOf code f u
units_right code [] uss f u listed among = absurd (no_number u among)
  where
    no_number : (u : ℕ) → Contains [] u → ⊥
    no_number u (k, below, is) = omega arith
units_right code (h ∷ hs) [] f u listed among = absurd (no_number u among)
  where
    no_number : (u : ℕ) → Contains [] u → ⊥
    no_number u (k, below, is) = omega arith
units_right code (h ∷ hs) (us ∷ uss) f u listed among = by_test (λ later. units_right code hs uss f u (rest_listed code h hs us uss listed) later) (h == f) refl among
  where
    by_test : (Contains (units_among hs uss f) u → IsUnitOf code f u) → (b : Bool) → (h == f) ≡ b
        → Contains (if b then us else units_among hs uss f) u → IsUnitOf code f u
    by_test next true is there = subst (λ v. IsUnitOf code v u) (eqb-true h f is) (((listed 0 us refl).are u).0 there)
    by_test next false is there = next there

units_there : (code : Code) (hs : List ℕ) (uss : List (List ℕ)) (f u : ℕ) → AreListed code hs uss
    → length uss ≡ length hs → Contains hs f → IsUnitOf code f u → Contains (units_among hs uss f) u
units_there code [] uss f u listed long among member = absurd (no_number f among)
  where
    no_number : (u : ℕ) → Contains [] u → ⊥
    no_number u (k, below, is) = omega arith
units_there code (h ∷ hs) [] f u listed long among member = absurd (omega (arith, long))
units_there code (h ∷ hs) (us ∷ uss) f u listed long among member = by_test (λ later. units_there code hs uss f u (rest_listed code h hs us uss listed) (omega (arith, long)) later member) (h == f) refl
  where
    rest : (h == f) ≡ false → Contains (h ∷ hs) f → Contains hs f
    rest other (zero, below, is) = let here : h ≡ f = is in absurd (let clash : true ≡ false = sym (same_number f) ∙ ap (λ n. n == f) (sym here) ∙ other in cc)
    rest other (suc k, below, is) = (k, omega (arith, below), is)

    by_test : (Contains hs f → Contains (units_among hs uss f) u) → (b : Bool) → (h == f) ≡ b
        → Contains (if b then us else units_among hs uss f) u
    by_test next true is = ((listed 0 us refl).are u).1 (subst (λ v. IsUnitOf code v u) (sym (eqb-true h f is)) member)
    by_test next false is = next (rest is among)

-- a function with a unit is one of the graph's
function_there : (hs : List ℕ) (uss : List (List ℕ)) (f u : ℕ) → Contains (units_among hs uss f) u → Contains hs f
function_there [] uss f u among = absurd (no_number u among)
  where
    no_number : (u : ℕ) → Contains [] u → ⊥
    no_number u (k, below, is) = omega arith
function_there (h ∷ hs) [] f u among = absurd (no_number u among)
  where
    no_number : (u : ℕ) → Contains [] u → ⊥
    no_number u (k, below, is) = omega arith
function_there (h ∷ hs) (us ∷ uss) f u among = by_test (λ there. function_there hs uss f u there) (h == f) refl among
  where
    later : Contains hs f → Contains (h ∷ hs) f
    later (k, below, is) = (suc k, omega (arith, below), is)

    by_test : (Contains (units_among hs uss f) u → Contains hs f) → (b : Bool) → (h == f) ≡ b
        → Contains (if b then us else units_among hs uss f) u → Contains (h ∷ hs) f
    by_test next true is there = (0, omega arith, eqb-true h f is)
    by_test next false is there = later (next there)

plain_inner : (k : EdgeKind) → IsPlain k → is_inner k ≡ true
plain_inner Next plain = refl
plain_inner Taken plain = refl
plain_inner Call plain = absurd plain
plain_inner Return plain = absurd plain
plain_inner Over plain = absurd plain

-- only a Return edge comes back
leads_by : (p : Program) (e : Edge) → IsEdge p.code p.entry e → e.kind ≢ Return → Leads p.code e
leads_by p e is other = elim is.joins [ inl leads ↦ leads | inr r ↦ absurd (other r.0) ]

plain_no_return : (k : EdgeKind) → IsPlain k → k ≢ Return
plain_no_return Next plain e = cc
plain_no_return Taken plain e = cc
plain_no_return Call plain e = plain
plain_no_return Return plain e = plain
plain_no_return Over plain e = plain

call_leads : (code : Code) (e : Edge) → e.kind ≡ Call → Leads code e → CallsAt code e.from e.to
call_leads code e is leads = subst (λ k. Leads code (edge_of e.from e.to k)) is leads

no_recursion : (p : Program) (g : Flow) → IsGraph p.code p.entry g → (u f : ℕ) → Reached p.code p.entry u
    → CallsAt p.code u f → f ≢ p.entry
unfolding Has
no_recursion p g is u f reached calls same =
    is.sound (Recursion u) (record { reached = reached; function = f; calls = calls; again = subst (λ v. IsReached p.code is_any v u) (sym same) reached })

pub functions_are : (p : Program) (g : Flow) → IsGraph p.code p.entry g → IsGraphOf p g
    → AreFunctions p.graph.edges (units_of g) p.entry
functions_are p g is of =
    let flowing = flowing_of p g is of in
    record {
      first = there p.entry p.entry flowing.entry.0 flowing.entry.2;
      step = λ e among plain f from.
          let edge = edge_is p g is of e among in
          let leads = leads_by p e edge (plain_no_return e.kind plain) in
          member_there f e.to (function_there g.functions g.function_units f e.from from) (reached_along p.code is_inner f e (right f e.from from) leads (plain_inner e.kind plain));
      call = λ e among is_call.
          let edge = edge_is p g is of e among in
          let leads = leads_by p e edge (λ r. let clash : Call ≡ Return = sym is_call ∙ r in cc) in
          let calls = call_leads p.code e is_call leads in
          (there e.to e.to (inr (record { caller = e.from; reached = edge.reached; calls = calls })) (reached_first p.code is_inner e.to (leads_to_code p.code e leads)), no_recursion p g is e.from e.to edge.reached calls);
      over = λ e among is_call f from.
          let edge = edge_is p g is of e among in
          let leads = leads_by p e edge (λ r. let clash : Call ≡ Return = sym is_call ∙ r in cc) in
          let over = over_leads p flowing e.from e.to edge.reached (call_leads p.code e is_call leads) in
          member_there f (e.from + 8) (function_there g.functions g.function_units f e.from from) (reached_along p.code is_inner f (edge_of e.from (e.from + 8) Over) (right f e.from from) over refl);
    }
  where
    right : (f u : ℕ) → Contains (units_of g f) u → IsUnitOf p.code f u
    right f u among = units_right p.code g.functions g.function_units f u is.function_units_are among

    member_there : (f u : ℕ) → Contains g.functions f → IsUnitOf p.code f u → Contains (units_of g f) u
    member_there f u among member = units_there p.code g.functions g.function_units f u is.function_units_are is.function_units_beside among member

    there : (f u : ℕ) → IsFunction p.code p.entry f → IsUnitOf p.code f u → Contains (units_of g f) u
    there f u function member = member_there f u ((is.functions_are f).1 function) member

pub over_are : (p : Program) (g : Flow) → IsGraph p.code p.entry g → IsGraphOf p g → AreOver p.graph.edges
over_are p g is of e among is_call =
    let flowing = flowing_of p g is of in
    let edge = edge_is p g is of e among in
    let leads = leads_by p e edge (λ r. let clash : Call ≡ Return = sym is_call ∙ r in cc) in
    let over = over_leads p flowing e.from e.to edge.reached (call_leads p.code e is_call leads) in
    flowing.edges (edge_of e.from (e.from + 8) Over) (record { reached = edge.reached; joins = inl over })
