-- One pass over the units of functions.
use Rattle.std.proofs.Common.{◌≡◌, ◌∙◌, refl, sym, ap, subst, ℕ, zero, suc, ◌+◌, ◌*◌, ◌<◌, Bool, true, false, arith, List, [], ◌∷◌, ◌++◌, ◌⊎◌, inl, inr, Option, Some, None, length}
use Rattle.std.specs.Prelude.{◌==◌, Contains, slice_index, slice_index_or}
use Rattle.std.proofs.lemmas.Bool.{cases_lt}
use Rattle.std.proofs.lemmas.List.Elements.{Contains-push_cases}
use Rattle.visa_io.specs.declared.records.Code.{Code}
use Rattle.mips_isa.specs.Kinds.{kind_of}
use Rattle.mips_isa.specs.Names.{writes_of}
use Rattle.mips_isa.specs.declared.instr.Instr.{Instr}
use Rattle.mips_isa.specs.declared.instr.Kind.{Kind}
use Rattle.mips_isa.specs.declared.instr.Kind.TheVariants as kind
use Rattle.flow_graph.specs.Code.{instr_at, is_control_at, is_control_instr, passes}
use Rattle.flow_graph.specs.Edges.{branch_edges, call_edges, edge_of, edge_to, edges_by, edges_of_kind, target_of}
use Rattle.mips_isa.specs.Prediction.{single_edge_of}
use Rattle.flow_graph.specs.Faults.{edges_if, is_word_of}
use Rattle.flow_graph.specs.Flow.{Flow, HasShape, IsGraph, IsUnit}
use Rattle.flow_graph.specs.Reached.{CallsAt, IsUnitOf}
use Rattle.flow_graph.specs.declared.parts.Edge.{Edge}
use Rattle.flow_graph.specs.declared.parts.EdgeKind.TheVariants.{Next, Taken, Call, Over}
use Rattle.flow_graph.specs.declared.parts.Unit.{Unit as FlowUnit}
use Rattle.range_facts.specs.Along.{begun}
use Rattle.run_law.specs.Masks.{Itself, MayWrite}
use Rattle.run_law.specs.Program.{Flowing, Program}
use Rattle.run_law.proofs.Flows.{flowing_of, own_of}
use Rattle.bound_checker.specs.Lines.{no_facts}
use Rattle.run_law.proofs.Coded.{is_slot_word}
use Rattle.bound_checker.proofs.Edges.{place_is}
use Rattle.bound_checker.specs.Marks.{AreDue, ArePassed, IsBelow, IsClosedAt, IsPassed, called_if, called_of, mark_at}
use Rattle.bound_checker.proofs.Marked.{antisym, below_trans, callee_writes}

-- a task with this graph
unfoldable pub plain_task : Code → Flow → Program
plain_task code g =
    record { code = code; entry = g.entry; graph = record { edges = g.edges; regions = []; is_long = is_control_at code }; mask = λ f r. false; before = λ u. begun no_facts }

length_of : (code : Code) (unit : FlowUnit) (b : Bool) → HasShape code unit b → b ≡ (unit.length == 8)
length_of code unit true shape = sym (ap (λ n. n == 8) shape.1)
length_of code unit false shape = sym (ap (λ n. n == 8) shape.1)

pub flows : (code : Code) (g : Flow) → IsGraph code g.entry g → Flowing (plain_task code g)
unfolding plain_task
flows code g graph =
    flowing_of (plain_task code g) g graph
    (record {
      edges = refl;
      long = λ unit among. let is = (graph.units_are unit).0 among in ap (passes is_control_instr) is.first ∙ length_of code unit (is_control_instr unit.first) is.shape;
    })

-- a unit calls a function exactly where it names it
none_in : {X : Type 0} (x : X) → Contains [] x → ⊥
none_in x (k, below, is) = omega (arith, below)

lone_edge : (d e : Edge) → Contains (d ∷ []) e → d ≡ e
lone_edge d e (zero, below, is) = is
lone_edge d e (suc k, below, is) = absurd (omega (arith, below))

two_edges : (c d e : Edge) → Contains (c ∷ d ∷ []) e → (c ≡ e) ⊎ (d ≡ e)
two_edges c d e (zero, below, is) = inl is
two_edges c d e (suc zero, below, is) = inr is
two_edges c d e (suc (suc k), below, is) = absurd (omega (arith, below))

first_in : (d : Edge) (es : List Edge) → Contains (d ∷ es) d
first_in d es = (0, omega arith, refl)

kind_same : (d e : Edge) → d ≡ e → d.kind ≡ e.kind
kind_same d e same = ap (λ (x : Edge). x.kind) same

next_no_call : (at a f : ℕ) → Contains (edge_of at a Next ∷ []) (edge_of at f Call) → ⊥
next_no_call at a f among = let k : Next ≡ Call = kind_same (edge_of at a Next) (edge_of at f Call) (lone_edge (edge_of at a Next) (edge_of at f Call) among) in cc

taken_no_call : (at f : ℕ) (t : Option ℕ) → Contains (edge_to at Taken t) (edge_of at f Call) → ⊥
taken_no_call at f None among = none_in (edge_of at f Call) among
taken_no_call at f (Some a) among = let k : Taken ≡ Call = kind_same (edge_of at a Taken) (edge_of at f Call) (lone_edge (edge_of at a Taken) (edge_of at f Call) among) in cc

branch_no_call : (at f : ℕ) (lone : Option Bool) (t : Option ℕ) → Contains (branch_edges at lone (edge_to at Taken t)) (edge_of at f Call) → ⊥
branch_no_call at f None None among = next_no_call at (at + 8) f among
branch_no_call at f None (Some a) among = elim (two_edges (edge_of at (at + 8) Next) (edge_of at a Taken) (edge_of at f Call) among) [
  | inl same ↦ let k : Next ≡ Call = kind_same (edge_of at (at + 8) Next) (edge_of at f Call) same in cc
  | inr same ↦ let k : Taken ≡ Call = kind_same (edge_of at a Taken) (edge_of at f Call) same in cc
]
branch_no_call at f (Some true) t among = taken_no_call at f t among
branch_no_call at f (Some false) t among = next_no_call at (at + 8) f among

call_target : (at f : ℕ) (t : Option ℕ) → Contains (call_edges at t) (edge_of at f Call) → t ≡ Some f
call_target at f None among = absurd (none_in (edge_of at f Call) among)
call_target at f (Some a) among = elim (two_edges (edge_of at a Call) (edge_of at (at + 8) Over) (edge_of at f Call) among) [
  | inl same ↦ ap Some (ap (λ (x : Edge). x.to) same)
  | inr same ↦ let k : Over ≡ Call = kind_same (edge_of at (at + 8) Over) (edge_of at f Call) same in absurd (cc)
]

named_by : (k : Kind) (i : Instr) (at f : ℕ) → Contains (edges_of_kind k i at) (edge_of at f Call) → called_if k (target_of i at) ≡ Some f
named_by kind.Call i at f among = call_target at f (target_of i at) among
named_by kind.Branch i at f among = absurd (branch_no_call at f (single_edge_of i) (target_of i at) among)
named_by kind.Jump i at f among = absurd (taken_no_call at f (target_of i at) among)
named_by kind.Return i at f among = absurd (none_in (edge_of at f Call) among)
named_by kind.Indirect i at f among = absurd (none_in (edge_of at f Call) among)
named_by kind.Stop i at f among = absurd (none_in (edge_of at f Call) among)
named_by kind.Plain i at f among = absurd (next_no_call at (at + 4) f among)
named_by kind.Mul i at f among = absurd (next_no_call at (at + 4) f among)
named_by kind.Div i at f among = absurd (next_no_call at (at + 4) f among)
named_by kind.Load i at f among = absurd (next_no_call at (at + 4) f among)
named_by kind.Store i at f among = absurd (next_no_call at (at + 4) f among)

pub calls_named : (code : Code) (entry f : ℕ) (unit : FlowUnit) → IsUnit code entry unit → CallsAt code unit.at f → called_of unit ≡ Some f
unfolding edges_by
calls_named code entry f unit is calls =
    let own = (own_of code (edge_of unit.at f Call) calls).1 in
    named_by (kind_of unit.first) unit.first unit.at f (subst (λ o. Contains (edges_if o unit.at) (edge_of unit.at f Call)) is.first own)

named_edge : (k : Kind) (i : Instr) (at f : ℕ) → called_if k (target_of i at) ≡ Some f → Contains (edges_of_kind k i at) (edge_of at f Call)
named_edge kind.Call i at f is = subst (λ t. Contains (call_edges at t) (edge_of at f Call)) (sym is) (first_in (edge_of at f Call) (edge_of at (at + 8) Over ∷ []))
named_edge kind.Branch i at f is = absurd (cc)
named_edge kind.Jump i at f is = absurd (cc)
named_edge kind.Return i at f is = absurd (cc)
named_edge kind.Indirect i at f is = absurd (cc)
named_edge kind.Stop i at f is = absurd (cc)
named_edge kind.Plain i at f is = absurd (cc)
named_edge kind.Mul i at f is = absurd (cc)
named_edge kind.Div i at f is = absurd (cc)
named_edge kind.Load i at f is = absurd (cc)
named_edge kind.Store i at f is = absurd (cc)

pub named_calls : (code : Code) (g : Flow) (f : ℕ) (unit : FlowUnit) → IsGraph code g.entry g → IsUnit code g.entry unit → called_of unit ≡ Some f → CallsAt code unit.at f
unfolding edges_by plain_task
named_calls code g f unit graph is named =
    (flows code g graph).leads unit.at unit.first (edge_of unit.at f Call) is.reached is.first refl (named_edge (kind_of unit.first) unit.first unit.at f named)

pub named_function : (code : Code) (g : Flow) (f : ℕ) (unit : FlowUnit) → IsGraph code g.entry g → IsUnit code g.entry unit → called_of unit ≡ Some f → Contains g.functions f
named_function code g f unit graph is named =
    (graph.functions_are f).1 (inr (record { caller = unit.at; reached = is.reached; calls = named_calls code g f unit graph is named }))

-- a unit is closed where nothing changed
pub closed_unit : (code : Code) (g : Flow) (row u : ℕ) (a b c : List Bool) → IsBelow a b → IsBelow b c
    → ((at r : ℕ) (i : Instr) → is_word_of code u at ≡ true → instr_at code at ≡ Some i → writes_of i ≡ Some r → r < 32 → mark_at b row r ≡ true)
    → ((other r : ℕ) → other < length g.functions → CallsAt code u (slice_index g.functions other) → r < 32 → mark_at b other r ≡ true → mark_at c row r ≡ true)
    → c ≡ a → IsClosedAt code g a row u
closed_unit code g row u a b c ab bc own called same =
    record {
      own = λ at r i word stands writes below. subst (λ m. mark_at m row r ≡ true) same (bc.kept (row * 32 + r) (own at r i word stands writes below));
      called = λ other r within calls below is. subst (λ m. mark_at m row r ≡ true) same (called other r within calls below (ab.kept (other * 32 + r) is));
    }

-- why a unit's writes are marked
pub own_reason : (code : Code) (f at r : ℕ) (unit : FlowUnit) (i : Instr) → IsUnitOf code f unit.at → is_word_of code unit.at at ≡ true → instr_at code at ≡ Some i → writes_of i ≡ Some r → MayWrite code f r
own_reason code f at r unit i member word stands writes =
    record { inside = f; enters = Itself; unit = unit.at; member = member; at = at; word = word; instr = i; stands = stands; writes = writes }

slot_word : (code : Code) (entry f r : ℕ) (unit : FlowUnit) (s : Instr) (b : Bool) → is_control_instr unit.first ≡ b → HasShape code unit b → IsUnit code entry unit → IsUnitOf code f unit.at → unit.slot ≡ Some s → writes_of s ≡ Some r → MayWrite code f r
slot_word code entry f r unit s true control shape is member slot writes =
    own_reason code f (unit.at + 4) r unit s member (is_slot_word code unit.at unit.first is.first control) (shape.0 ∙ slot) writes
slot_word code entry f r unit s false plain shape is member slot writes = let never : None ≡ Some s = sym shape.0 ∙ slot in absurd (cc)

pub slot_reason : (code : Code) (entry f r : ℕ) (unit : FlowUnit) (s : Instr) → IsUnit code entry unit → IsUnitOf code f unit.at → unit.slot ≡ Some s → writes_of s ≡ Some r → MayWrite code f r
slot_reason code entry f r unit s is member slot writes = slot_word code entry f r unit s (is_control_instr unit.first) refl is.shape is member slot writes

-- why what a called function may write is marked
pub called_reason : (code : Code) (g : Flow) (row k f : ℕ) (unit : FlowUnit) → IsGraph code g.entry g → IsUnit code g.entry unit → IsUnitOf code (slice_index g.functions row) unit.at → called_of unit ≡ Some f → slice_index g.functions k ≡ f
    → (r : ℕ) → MayWrite code (slice_index g.functions k) r → MayWrite code (slice_index g.functions row) r
called_reason code g row k f unit graph is member named at r w =
    callee_writes code (slice_index g.functions row) unit.at (slice_index g.functions k) r member
    (subst (λ h. CallsAt code unit.at h) (sym at) (named_calls code g f unit graph is named)) w

pub called_none : (code : Code) (g : Flow) (row : ℕ) (marks : List Bool) (unit : FlowUnit) → IsUnit code g.entry unit → called_of unit ≡ None
    → (other r : ℕ) → other < length g.functions → CallsAt code unit.at (slice_index g.functions other) → r < 32 → mark_at marks other r ≡ true → mark_at marks row r ≡ true
called_none code g row marks unit is none other r within calls below marked =
    let never : None ≡ Some (slice_index g.functions other) = sym none ∙ calls_named code g.entry (slice_index g.functions other) unit is calls in absurd (cc)

pub called_done : (code : Code) (g : Flow) (row k f : ℕ) (unit : FlowUnit) (old new : List Bool) → IsGraph code g.entry g → IsUnit code g.entry unit → called_of unit ≡ Some f → slice_index g.functions k ≡ f → k < length g.functions
    → ((r : ℕ) → r < 32 → mark_at old k r ≡ true → mark_at new row r ≡ true)
    → (other r : ℕ) → other < length g.functions → CallsAt code unit.at (slice_index g.functions other) → r < 32 → mark_at old other r ≡ true → mark_at new row r ≡ true
called_done code g row k f unit old new graph is named at inside set other r within calls below marked =
    let also : Some f ≡ Some (slice_index g.functions other) = sym named ∙ calls_named code g.entry (slice_index g.functions other) unit is calls in
    let same : f ≡ slice_index g.functions other = cc in
    let one : other ≡ k = sym (place_is g.functions other f graph.functions_rise within (sym same)) ∙ place_is g.functions k f graph.functions_rise inside at in
    set r below (subst (λ j. mark_at old j r ≡ true) one marked)

-- one more unit, one more function
pub passed_more : (code : Code) (g : Flow) (row u : ℕ) (us : List ℕ) (a b c : List Bool) → IsPassed code g row us a b → AreDue code g c → IsBelow b c → (c ≡ b → IsClosedAt code g b row u) → IsPassed code g row (us ++ u ∷ []) a c
passed_more code g row u us a b c passed due below closed =
    record {
      due = due;
      below = below_trans a b c passed.below below;
      closed = λ same v among. let back : b ≡ a = antisym b a (subst (λ l. IsBelow b l) same below) passed.below in
          elim (Contains-push_cases us u v among) [
            | inl old ↦ passed.closed back v old
            | inr here ↦ subst (λ w. IsClosedAt code g a row w) here (subst (λ l. IsClosedAt code g l row u) back (closed (same ∙ sym back)))
          ];
    }

pub all_more : (code : Code) (g : Flow) (count : ℕ) (a b c : List Bool) → ArePassed code g count a b → IsPassed code g count (slice_index_or g.function_units count []) b c → ArePassed code g (count + 1) a c
all_more code g count a b c passed one =
    record {
      due = one.due;
      below = below_trans a b c passed.below one.below;
      closed = λ same row u less within among. let back : b ≡ a = antisym b a (subst (λ l. IsBelow b l) same one.below) passed.below in
          elim (cases_lt row count) [
            | inl before ↦ passed.closed back row u before within among
            | inr more ↦ let here : row ≡ count = omega (arith, less, more) in
                subst (λ k. IsClosedAt code g a k u) (sym here)
                (subst (λ l. IsClosedAt code g l count u) back (one.closed (same ∙ sym back) u (subst (λ k. Contains (slice_index_or g.function_units k []) u) here among)))
          ];
    }
