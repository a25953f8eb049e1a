-- From edges of a graph to what the check of facts asks of them.
use Rattle.std.proofs.Common.{◌≡◌, ◌∙◌, refl, sym, ap, subst, ℕ, zero, suc, ◌+◌, ◌<◌, Bool, true, false, cond, arith, List, [], ◌∷◌, ◌⊎◌, inl, inr, Option, Some, None, length, get_or, map}
use Rattle.std.specs.Prelude.{◌==◌, IfSome, Contains, slice_index}
use Rattle.std.specs.List.{list_any}
use Rattle.std.proofs.lemmas.List.{get_or_default, length-map}
use Rattle.visa_io.specs.declared.records.Code.{Code}
use Rattle.visa_io.specs.declared.records.FactLine.{FactLine}
use Rattle.mips_isa.specs.Kinds.{kind_of}
use Rattle.mips_isa.specs.declared.instr.Instr.{Instr}
use Rattle.mips_isa.specs.declared.instr.Kind.{Kind}
use Rattle.mips_isa.specs.declared.instr.Kind.TheVariants as kind
use Rattle.mips_isa.specs.Prediction.{single_edge_of}
use Rattle.flow_graph.specs.Code.{instr_at}
use Rattle.flow_graph.specs.Edges.{branch_edges, call_edges, edge_of, edge_to, edges_by, edges_of_kind, target_of}
use Rattle.flow_graph.specs.Faults.{edges_if, is_faulty, leads_from, own_edges}
use Rattle.flow_graph.specs.Flow.{Flow, IsGraph, IsUnit}
use Rattle.flow_graph.specs.Reached.{Leads, Reached}
use Rattle.flow_graph.specs.declared.parts.Edge.{Edge}
use Rattle.flow_graph.specs.declared.parts.EdgeKind.{EdgeKind}
use Rattle.flow_graph.specs.declared.parts.EdgeKind.TheVariants.{Next, Taken, Call, Return, Over}
use Rattle.flow_graph.specs.declared.parts.Unit.{Unit as FlowUnit}
use Rattle.loop_regions.specs.Walks.{LoopGraph}
use Rattle.range_facts.specs.declared.along.Along.{Along}
use Rattle.run_law.specs.Certificate.{Blocks, along_kind, before_nth, fact_along, fact_if}
use Rattle.run_law.specs.Program.{Program}
use Rattle.run_law.proofs.Flows.{own_of}
use Rattle.bound_checker.specs.Checked.{IsBlockEdge, IsLost}
use Rattle.bound_checker.specs.Gone.{is_return}
use Rattle.bound_checker.specs.Input.{IsBefore}
use Rattle.bound_checker.specs.Lines.{addresses_of, blocks_of, program_of}
use Rattle.bound_checker.specs.Lost.{callee_of}
use Rattle.bound_checker.proofs.Edges.{place_is, unit_recorded}
use Rattle.bound_checker.proofs.Recorded.{address_is}

-- a return's edge keeps all, since its facts aren't checked
return_is : (k : EdgeKind) → is_return k ≡ true → k ≡ Return
return_is Return is = refl
return_is Next is = cc
return_is Taken is = cc
return_is Call is = cc
return_is Over is = cc

pub return_keeps : (p : Program) (b : Blocks) (e : Edge) → is_return e.kind ≡ true → IsLost p b e None
unfolding fact_along
return_keeps p b e is r below s same =
    let none : fact_along p e r ≡ None = ap (λ k. fact_if p e r (along_kind p k e)) (return_is e.kind is) in
    let never : None ≡ Some s = sym none ∙ same in
    absurd (cc)

-- an edge that is no return's
not_return : (k : EdgeKind) → is_return k ≡ false → k ≡ Return → ⊥
not_return Return is e = let never : true ≡ false = is in cc
not_return Next is e = cc
not_return Taken is e = cc
not_return Call is e = cc
not_return Over is e = cc

pub leads_on : (code : Code) (g : Flow) (e : Edge) → IsGraph code g.entry g → Contains g.edges e → is_return e.kind ≡ false → Reached code g.entry e.from × Leads code e
leads_on code g e graph among is =
    let edge = (graph.edges_are e).0 among in
    (edge.reached, elim edge.joins [ inl leads ↦ leads | inr back ↦ absurd (not_return e.kind is back.0) ])

-- the address of a recorded unit
pub mapped : (units : List FlowUnit) (unit : FlowUnit) → Contains units unit → Contains (map (λ u. u.at) units) unit.at
mapped units unit (k, below, is) =
    let within : k < length (map (λ (u : FlowUnit). u.at) units) = subst (λ n. k < n) (sym (length-map units (λ (u : FlowUnit). u.at))) below in
    (k, within, get_or_default (map (λ u. u.at) units) k unit.at 0 within ∙ address_is units k unit unit below is)

pub address_among : (code : Code) (g : Flow) (e : Edge) → IsGraph code g.entry g → Contains g.edges e → is_return e.kind ≡ false → Contains (addresses_of g) e.from
address_among code g e graph among is =
    let l = leads_on code g e graph among is in
    let r = unit_recorded code g e graph l.0 l.1 in
    subst (λ a. Contains (addresses_of g) a) r.at_is (mapped g.units r.unit r.among)

-- the number of a unit and its facts
pub number_within : (g : Flow) (n : ℕ) → n < length (addresses_of g) → n < length g.units
number_within g n within = subst (λ k. n < k) (length-map g.units (λ (u : FlowUnit). u.at)) within

pub unit_from : (g : Flow) (n a : ℕ) (unit : FlowUnit) → n < length g.units → ((d : FlowUnit) → get_or g.units n d ≡ unit) → slice_index (addresses_of g) n ≡ a → unit.at ≡ a
unit_from g n a unit within is at = sym (address_is g.units n unit unit within (is unit)) ∙ at

pub program_before : (code : Code) (g : Flow) (lines : List FactLine) (loops : LoopGraph) (mask : ℕ → ℕ → Bool) (n u : ℕ) (a : Along) → IsGraph code g.entry g → IsBefore code g lines n a → slice_index (addresses_of g) n ≡ u
    → (program_of code g lines loops mask).before u ≡ a
unfolding program_of
program_before code g lines loops mask n u a graph before at =
    let within : n < length (addresses_of g) = subst (λ k. n < k) (sym (length-map g.units (λ (v : FlowUnit). v.at))) before.within in
    ap (before_nth code (blocks_of g lines)) (place_is (addresses_of g) n u graph.units_rise within at) ∙ sym before.is

-- an edge that leads to no start is no block edge
pub no_start : (code : Code) (g : Flow) (lines : List FactLine) (loops : LoopGraph) (mask : ℕ → ℕ → Bool) (e : Edge) → list_any (λ b. b == e.to) g.blocks ≡ false → IsBlockEdge (program_of code g lines loops mask) (blocks_of g lines) e → ⊥
unfolding blocks_of
no_start code g lines loops mask e none block = let never : true ≡ false = sym block.start ∙ none in cc

pub block_edge : (code : Code) (g : Flow) (lines : List FactLine) (loops : LoopGraph) (mask : ℕ → ℕ → Bool) (e : Edge) → Reached code g.entry e.from → Leads code e → list_any (λ b. b == e.to) g.blocks ≡ true
    → IsBlockEdge (program_of code g lines loops mask) (blocks_of g lines) e
unfolding blocks_of program_of
block_edge code g lines loops mask e reached leads start = record { reached = reached; leads = leads; start = start }

-- the function that an Over edge goes over is one of the graph's
none_in : {X : Type 0} (x : X) → Contains [] x → ⊥
none_in x (k, below, is) = omega (arith, below)

lone_edge : (d e : Edge) → Contains (d ∷ []) e → d ≡ e
lone_edge d e (zero, below, is) = is
lone_edge d e (suc k, below, is) = absurd (omega (arith, below))

two_edges : (c d e : Edge) → Contains (c ∷ d ∷ []) e → (c ≡ e) ⊎ (d ≡ e)
two_edges c d e (zero, below, is) = inl is
two_edges c d e (suc zero, below, is) = inr is
two_edges c d e (suc (suc k), below, is) = absurd (omega (arith, below))

first_in : (d : Edge) (es : List Edge) → Contains (d ∷ es) d
first_in d es = (0, omega arith, refl)

not_over : (d e : Edge) (k : EdgeKind) → d ≡ e → d.kind ≡ k → (k ≡ Over → ⊥) → e.kind ≡ Over → ⊥
not_over d e k same is apart over = apart (sym is ∙ ap (λ (x : Edge). x.kind) same ∙ over)

taken_not_over : (at : ℕ) (t : Option ℕ) (e : Edge) → Contains (edge_to at Taken t) e → e.kind ≡ Over → ⊥
taken_not_over at None e among over = none_in e among
taken_not_over at (Some to) e among over = not_over (edge_of at to Taken) e Taken (lone_edge (edge_of at to Taken) e among) refl (λ x. cc) over

branch_not_over : (at : ℕ) (lone : Option Bool) (t : Option ℕ) (e : Edge) → Contains (branch_edges at lone (edge_to at Taken t)) e → e.kind ≡ Over → ⊥
branch_not_over at None None e among over = not_over (edge_of at (at + 8) Next) e Next (lone_edge (edge_of at (at + 8) Next) e among) refl (λ x. cc) over
branch_not_over at None (Some to) e among over = elim (two_edges (edge_of at (at + 8) Next) (edge_of at to Taken) e among) [
  | inl same ↦ not_over (edge_of at (at + 8) Next) e Next same refl (λ x. cc) over
  | inr same ↦ not_over (edge_of at to Taken) e Taken same refl (λ x. cc) over
]
branch_not_over at (Some true) t e among over = taken_not_over at t e among over
branch_not_over at (Some false) t e among over = not_over (edge_of at (at + 8) Next) e Next (lone_edge (edge_of at (at + 8) Next) e among) refl (λ x. cc) over

next_not_over : (at : ℕ) (e : Edge) → Contains (edge_of at (at + 4) Next ∷ []) e → e.kind ≡ Over → ⊥
next_not_over at e among over = not_over (edge_of at (at + 4) Next) e Next (lone_edge (edge_of at (at + 4) Next) e among) refl (λ x. cc) over

pub over_calls : (k : Kind) (i : Instr) (at : ℕ) (e : Edge) (f : ℕ) → Contains (edges_of_kind k i at) e → e.kind ≡ Over → target_of i at ≡ Some f → Contains (edges_of_kind k i at) (edge_of at f Call)
over_calls kind.Branch i at e f among over is = absurd (branch_not_over at (single_edge_of i) (target_of i at) e among over)
over_calls kind.Jump i at e f among over is = absurd (taken_not_over at (target_of i at) e among over)
over_calls kind.Call i at e f among over is = subst (λ t. Contains (call_edges at t) (edge_of at f Call)) (sym is) (first_in (edge_of at f Call) (edge_of at (at + 8) Over ∷ []))
over_calls kind.Return i at e f among over is = absurd (none_in e among)
over_calls kind.Indirect i at e f among over is = absurd (none_in e among)
over_calls kind.Stop i at e f among over is = absurd (none_in e among)
over_calls kind.Plain i at e f among over is = absurd (next_not_over at e among over)
over_calls kind.Mul i at e f among over is = absurd (next_not_over at e among over)
over_calls kind.Div i at e f among over is = absurd (next_not_over at e among over)
over_calls kind.Load i at e f among over is = absurd (next_not_over at e among over)
over_calls kind.Store i at e f among over is = absurd (next_not_over at e among over)

pub leads_by : (code : Code) (u : ℕ) (d : Edge) → is_faulty code u ≡ false → Contains (own_edges code u) d → Contains (leads_from code u) d
unfolding leads_from
leads_by code u d sound among = subst (λ b. Contains (cond b [] (own_edges code u)) d) (sym sound) among

callee_function : (code : Code) (g : Flow) (unit : FlowUnit) (e : Edge) (f : ℕ) → IsGraph code g.entry g → IsUnit code g.entry unit → unit.at ≡ e.from → Reached code g.entry e.from → Leads code e → e.kind ≡ Over
    → target_of unit.first unit.at ≡ Some f → Contains g.functions f
unfolding edges_by
callee_function code g unit e f graph is at reached leads over target =
    let own = own_of code e leads in
    let stands : instr_at code e.from ≡ Some unit.first = ap (instr_at code) (sym at) ∙ is.first in
    let mine = subst (λ o. Contains (edges_if o e.from) e) stands own.1 in
    let to : target_of unit.first e.from ≡ Some f = ap (target_of unit.first) (sym at) ∙ target in
    let call = over_calls (kind_of unit.first) unit.first e.from e f mine over to in
    let calls = leads_by code e.from (edge_of e.from f Call) own.0 (subst (λ o. Contains (edges_if o e.from) (edge_of e.from f Call)) (sym stands) call) in
    (graph.functions_are f).1 (inr (record { caller = e.from; reached = reached; calls = calls }))

pub callee_known : (code : Code) (g : Flow) (functions : List ℕ) (unit : FlowUnit) (e : Edge) (k : EdgeKind) → IsGraph code g.entry g → IsUnit code g.entry unit → unit.at ≡ e.from → Reached code g.entry e.from → Leads code e → e.kind ≡ k
    → functions ≡ g.functions → (o : Option ℕ) → o ≡ callee_of k unit → IfSome o (Contains functions)
callee_known code g functions unit e k graph is at reached leads kind_is same None callee = tt
callee_known code g functions unit e Over graph is at reached leads kind_is same (Some f) callee =
    subst (λ fs. Contains fs f) (sym same) (callee_function code g unit e f graph is at reached leads kind_is (sym callee))
callee_known code g functions unit e Next graph is at reached leads kind_is same (Some f) callee = absurd (cc)
callee_known code g functions unit e Taken graph is at reached leads kind_is same (Some f) callee = absurd (cc)
callee_known code g functions unit e Call graph is at reached leads kind_is same (Some f) callee = absurd (cc)
callee_known code g functions unit e Return graph is at reached leads kind_is same (Some f) callee = absurd (cc)
