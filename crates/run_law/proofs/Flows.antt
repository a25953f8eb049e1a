-- The graph of code without a fault: what a run needs of it.
use Rattle.std.proofs.Common.{◌≡◌, ◌∙◌, refl, sym, ap, subst, ℕ, zero, suc, ◌+◌, ◌≤◌, Bool, true, false, List, [], ◌∷◌, arith, inl, inr}
use Rattle.std.specs.Prelude.{◌==◌, ◌&&◌, ◌||◌, not, if◌then◌else◌, is_none, Option, Some, None}
use Rattle.std.specs.List.{Contains, list_any}
use Rattle.std.proofs.lemmas.Bool.{cases_lt}
use Rattle.visa_io.specs.declared.records.Code.{Code}
use Rattle.mips_isa.specs.declared.instr.Instr.{Instr}
use Rattle.mips_isa.specs.declared.instr.Instr.TheVariants.{Branch1, Jr, Jalr}
use Rattle.mips_isa.specs.declared.instr.Branch1Op.TheVariants.{Blez, Bgtz, Bltz, Bgez, Bltzal, Bgezal}
use Rattle.flow_graph.specs.Code.{instr_at, is_code, is_control_at, is_control_instr, passes}
use Rattle.flow_graph.specs.Edges.{edge_of, edges_by}
use Rattle.flow_graph.specs.Faults.{edges_if, has_indirect, has_link_branch, has_reserved, has_slot_control, is_faulty, is_indirect, is_link_branch, is_reserved, is_word_of, leads_from, leaves_code, own_edges}
use Rattle.flow_graph.specs.Flow.{Flow, Has, HasShape, IsGraph, IsUnit}
use Rattle.flow_graph.specs.Reached.{Chain, IsFunction, IsReached, IsUnitOf, IsWay, Leads, Reached, is_any, is_inner}
use Rattle.flow_graph.specs.declared.fault.FlowFault.TheVariants.{Deep, Indirect, LinkBranch, OffCode, Reserved, SlotControl}
use Rattle.flow_graph.specs.declared.parts.Edge.{Edge}
use Rattle.flow_graph.specs.declared.parts.EdgeKind.{EdgeKind}
use Rattle.flow_graph.specs.declared.parts.EdgeKind.TheVariants.{Call}
use Rattle.flow_graph.specs.declared.parts.Unit.{Unit as FlowUnit}
use Rattle.run_law.specs.Instructions.{is_direct}
use Rattle.run_law.specs.Program.{Flowing, IsGraphOf, Program}
use Rattle.run_law.proofs.Coded.{control_there, is_first_word, is_slot_word}

-- what a list of tests tells of each
none_in : {X : Type 0} (x : X) → Contains [] x → ⊥
none_in x (k, below, is) = omega arith

any_holds : {X : Type 0} (test : X → Bool) (xs : List X) (x : X) → Contains xs x → test x ≡ true
    → list_any test xs ≡ true
any_holds test [] x among holds = absurd (none_in x among)
any_holds test (y ∷ ys) x (zero, below, is) holds = let here : y ≡ x = is in ap (λ b. b || list_any test ys) (ap test here ∙ holds)
any_holds test (y ∷ ys) x (suc k, below, is) holds =
    let later = any_holds test ys x (k, omega arith, is) holds in
    ap (λ b. test y || b) later ∙ or_last (test y)
  where
    or_last : (b : Bool) → (b || true) ≡ true
    or_last true = refl
    or_last false = refl

not_both : {P : Type 0} (b : Bool) → b ≡ true → b ≡ false → P
not_both b holds fails = absurd (let clash : true ≡ false = sym holds ∙ fails in cc)

is_false : (b : Bool) → (b ≡ true → ⊥) → b ≡ false
is_false true h = absurd (h refl)
is_false false h = refl

or_false : (a b : Bool) → (a || b) ≡ false → (a ≡ false) × (b ≡ false)
or_false true b is = cc
or_false false b is = (refl, is)

not_false : (b : Bool) → not b ≡ false → b ≡ true
not_false true is = refl
not_false false is = cc

-- an edge leads to code
along_own : (code : Code) (u : ℕ) (e : Edge) (b : Bool) → is_faulty code u ≡ b
    → Contains (if b then [] else own_edges code u) e → (is_faulty code u ≡ false) × Contains (own_edges code u) e
along_own code u e true is among = absurd (none_in e among)
along_own code u e false is among = (is, among)

pub own_of : (code : Code) (e : Edge) → Leads code e
    → (is_faulty code e.from ≡ false) × Contains (own_edges code e.from) e
unfolding leads_from
own_of code e leads = along_own code e.from e (is_faulty code e.from) refl leads

stays_in_code : (code : Code) (u : ℕ) → is_faulty code u ≡ false → leaves_code code u ≡ false
stays_in_code code u sound =
    (or_false (has_reserved code u || has_indirect code u || has_link_branch code u || has_slot_control code u) (leaves_code code u) sound).1

to_code : (code : Code) (u : ℕ) (e : Edge) → leaves_code code u ≡ false → Contains (own_edges code u) e
    → is_code code e.to ≡ true
to_code code u e stays among =
    let test : Edge → Bool = λ d. not (is_code code d.to) in
    let none = (or_false (is_control_at code u && not (is_code code (u + 4))) (list_any test (own_edges code u)) stays).1 in
    not_false (is_code code e.to) (is_false (test e) (λ holds. not_both (list_any test (own_edges code u)) (any_holds test (own_edges code u) e among holds) none))

pub leads_to_code : (code : Code) (e : Edge) → Leads code e → is_code code e.to ≡ true
leads_to_code code e leads = let own = own_of code e leads in to_code code e.from e (stays_in_code code e.from own.0) own.1

way_in_code : (code : Code) (asked : EdgeKind → Bool) (start u : ℕ) (us : List ℕ) → IsWay code asked start (u ∷ us)
    → is_code code u ≡ true
unfolding IsWay
way_in_code code asked start u [] way = way.1
way_in_code code asked start u (v ∷ us) way = let joins = way.0 in leads_to_code code (edge_of v u joins.kind) joins.leads

pub reached_code : (code : Code) (asked : EdgeKind → Bool) (start u : ℕ) → IsReached code asked start u
    → is_code code u ≡ true
reached_code code asked start u reached = way_in_code code asked start u reached.us reached.way

-- ways go on along edges
pub reached_along : (code : Code) (asked : EdgeKind → Bool) (start : ℕ) (e : Edge) → IsReached code asked start e.from
    → Leads code e → asked e.kind ≡ true → IsReached code asked start e.to
unfolding IsWay
reached_along code asked start e reached leads is = record { us = e.from ∷ reached.us; way = (record { kind = e.kind; is_asked = is; leads = leads }, reached.way) }

pub reached_first : (code : Code) (asked : EdgeKind → Bool) (u : ℕ) → is_code code u ≡ true → IsReached code asked u u
unfolding IsWay
reached_first code asked u is = record { us = []; way = (refl, is) }

-- the units of a function are reached
function_reached : (code : Code) (entry f : ℕ) → IsFunction code entry f → Reached code entry f
function_reached code entry f (inl is) = subst (λ e. Reached code e f) is.0 (reached_first code is_any f is.1)
function_reached code entry f (inr called) = reached_along code is_any entry (edge_of called.caller f Call) called.reached called.calls refl

way_reached : (code : Code) (entry f u : ℕ) (us : List ℕ) → Reached code entry f → IsWay code is_inner f (u ∷ us)
    → Reached code entry u
unfolding IsWay
way_reached code entry f u [] first way = subst (λ v. Reached code entry v) (sym way.0) first
way_reached code entry f u (v ∷ us) first way = let joins = way.0 in reached_along code is_any entry (edge_of v u joins.kind) (way_reached code entry f v us first way.1) joins.leads refl

pub unit_reached : (code : Code) (entry f u : ℕ) → IsFunction code entry f → IsUnitOf code f u → Reached code entry u
unit_reached code entry f u function member = way_reached code entry f u member.us (function_reached code entry f function) member.way

-- an instruction stands at each word of a unit
stands_in : (o : Option Instr) → is_none o ≡ false → (i : Instr) × (o ≡ Some i)
stands_in None is = cc
stands_in (Some i) is = (i, refl)

stands_at : (code : Code) (a : ℕ) → is_code code a ≡ true → (is_reserved code a ≡ true → ⊥)
    → (i : Instr) × (instr_at code a ≡ Some i)
stands_at code a code_there free =
    let none = is_false (is_none (instr_at code a)) (λ is. free (ap (λ b. b && is_none (instr_at code a)) code_there ∙ is)) in
    stands_in (instr_at code a) none

direct_of : (i : Instr) → is_indirect i ≡ false → is_link_branch i ≡ false → is_direct i ≡ true
unfolding is_direct
direct_of (Branch1 Blez rs off) jumps links = refl
direct_of (Branch1 Bgtz rs off) jumps links = refl
direct_of (Branch1 Bltz rs off) jumps links = refl
direct_of (Branch1 Bgez rs off) jumps links = refl
direct_of (Branch1 Bltzal rs off) jumps links = cc
direct_of (Branch1 Bgezal rs off) jumps links = not_false (rs == 0) links
direct_of (Jr rs) jumps links = not_false (rs == 31) jumps
direct_of (Jalr rs rd) jumps links = cc
direct_of i jumps links = refl

-- the words of a unit have no fault
record IsSound (code : Code) (u : ℕ) (i : Instr) : Type 0 where
  direct : is_direct i ≡ true
  slot : is_control_instr i ≡ true → (s : Instr) × (instr_at code (u + 4) ≡ Some s) × (is_control_instr s ≡ false)
  none : is_faulty code u ≡ false

stays_of : (code : Code) (entry : ℕ) (g : Flow) (u : ℕ) → IsGraph code entry g → Reached code entry u
    → leaves_code code u ≡ false
unfolding Has
stays_of code entry g u is reached = is_false (leaves_code code u) (λ leaves. is.sound (OffCode u) (inl (reached, leaves)))

slot_code : (code : Code) (u : ℕ) → leaves_code code u ≡ false → is_control_at code u ≡ true
    → is_code code (u + 4) ≡ true
slot_code code u stays control =
    let none = (or_false (is_control_at code u && not (is_code code (u + 4))) (list_any (λ e. not (is_code code e.to)) (own_edges code u)) stays).0 in
    not_false (is_code code (u + 4)) (ap (λ b. b && not (is_code code (u + 4))) (sym control) ∙ none)

sound_of : (code : Code) (entry : ℕ) (g : Flow) (u : ℕ) (i : Instr) → IsGraph code entry g → Reached code entry u
    → instr_at code u ≡ Some i → IsSound code u i
unfolding Has
sound_of code entry g u i is reached stands = record { direct = direct_of i indirect links; slot = slot; none = by_control (is_control_at code u) refl }
  where
    indirect_at : has_indirect code u ≡ false
    indirect_at = is_false (has_indirect code u) (λ has. is.sound (Indirect u) (reached, has))

    links_at : has_link_branch code u ≡ false
    links_at = is_false (has_link_branch code u) (λ has. is.sound (LinkBranch u) (reached, has))

    indirect : is_indirect i ≡ false
    indirect = ap (passes is_indirect) (sym stands) ∙ indirect_at

    links : is_link_branch i ≡ false
    links = ap (passes is_link_branch) (sym stands) ∙ links_at

    free : (a : ℕ) → is_word_of code u a ≡ true → is_reserved code a ≡ true → ⊥
    free a word reserved = is.sound (Reserved a) (record { unit = u; reached = reached; has = word }, reserved)

    slot_plain : is_control_at code u ≡ true → is_control_at code (u + 4) ≡ false
    slot_plain control = is_false (is_control_at code (u + 4)) (λ also. is.sound (SlotControl (u + 4)) (record { unit = u; reached = reached; control = control; follows = refl }, also))

    slot : is_control_instr i ≡ true → (s : Instr) × (instr_at code (u + 4) ≡ Some s) × (is_control_instr s ≡ false)
    slot control =
        let there = control_there code u i stands ∙ control in
        let s = stands_at code (u + 4) (slot_code code u (stays_of code entry g u is reached) there) (free (u + 4) (is_slot_word code u i stands control)) in
        (s.0, s.1, sym (control_there code (u + 4) s.0 s.1) ∙ slot_plain there)

    reserved_first : is_reserved code u ≡ false
    reserved_first = is_false (is_reserved code u) (free u (is_first_word code u))

    ors : (a b c d e : Bool) → a ≡ false → b ≡ false → c ≡ false → d ≡ false → e ≡ false
        → (a || b || c || d || e) ≡ false
    ors false false false false false p q r s t = refl
    ors true b c d e p q r s t = p
    ors false true c d e p q r s t = q
    ors false false true d e p q r s t = r
    ors false false false true e p q r s t = s
    ors false false false false true p q r s t = t

    by_control : (b : Bool) → is_control_at code u ≡ b → is_faulty code u ≡ false
    by_control true control =
        let word = is_slot_word code u i stands (sym (control_there code u i stands) ∙ control) in
        let second = is_false (is_reserved code (u + 4)) (free (u + 4) word) in
        let reserved : has_reserved code u ≡ false = ap (λ b. b || (is_control_at code u && is_reserved code (u + 4))) reserved_first ∙ ap (λ b. b && is_reserved code (u + 4)) control ∙ second in
        let slots : has_slot_control code u ≡ false = ap (λ b. b && is_control_at code (u + 4)) control ∙ slot_plain control in
        ors (has_reserved code u) (has_indirect code u) (has_link_branch code u) (has_slot_control code u) (leaves_code code u) reserved indirect_at links_at slots (stays_of code entry g u is reached)
    by_control false plain =
        let reserved : has_reserved code u ≡ false = ap (λ b. b || (is_control_at code u && is_reserved code (u + 4))) reserved_first ∙ ap (λ b. b && is_reserved code (u + 4)) plain in
        let slots : has_slot_control code u ≡ false = ap (λ b. b && is_control_at code (u + 4)) plain in
        ors (has_reserved code u) (has_indirect code u) (has_link_branch code u) (has_slot_control code u) (leaves_code code u) reserved indirect_at links_at slots (stays_of code entry g u is reached)

pub unit_stands : (code : Code) (entry : ℕ) (g : Flow) (u : ℕ) → IsGraph code entry g → Reached code entry u
    → (i : Instr) × (instr_at code u ≡ Some i)
unfolding Has
unit_stands code entry g u is reached =
    stands_at code u (reached_code code is_any entry u reached) (λ reserved. is.sound (Reserved u) (record { unit = u; reached = reached; has = is_first_word code u }, reserved))

-- a unit leads along all edges that its first instruction decides
pub leads_all : (code : Code) (u : ℕ) (i : Instr) (e : Edge) → is_faulty code u ≡ false → instr_at code u ≡ Some i
    → e.from ≡ u → Contains (edges_by i u) e → Leads code e
unfolding leads_from
leads_all code u i e none stands from among =
    let here : leads_from code u ≡ edges_by i u = ap (λ (b : Bool). if b then [] else own_edges code u) none ∙ ap (λ o. edges_if o u) stands in
    subst (λ v. Contains (leads_from code v) e) (sym from) (subst (λ es. Contains es e) (sym here) among)

-- which units are long
pub unit_of : (code : Code) (entry u : ℕ) (i : Instr) (b : Bool) → Reached code entry u → instr_at code u ≡ Some i
    → is_control_instr i ≡ b → (unit : FlowUnit) × IsUnit code entry unit × (unit.at ≡ u) × ((unit.length == 8) ≡ b)
unit_of code entry u i true reached stands control =
    (record { at = u; length = 8; first = i; slot = instr_at code (u + 4) }, record { reached = reached; first = stands; shape = subst (λ b. HasShape code (record { at = u; length = 8; first = i; slot = instr_at code (u + 4) }) b) (sym control) (refl, refl) }, refl, refl)
unit_of code entry u i false reached stands plain =
    (record { at = u; length = 4; first = i; slot = None }, record { reached = reached; first = stands; shape = subst (λ b. HasShape code (record { at = u; length = 4; first = i; slot = None }) b) (sym plain) (refl, refl) }, refl, refl)

pub entry_code : (code : Code) (entry : ℕ) (g : Flow) → IsGraph code entry g → is_code code entry ≡ true
unfolding Has
entry_code code entry g is = by_test (is_code code entry) refl
  where
    by_test : (b : Bool) → is_code code entry ≡ b → b ≡ true
    by_test true there = refl
    by_test false there = absurd (is.sound (OffCode entry) (inr (refl, there)))

few_calls : (code : Code) (entry : ℕ) (g : Flow) → IsGraph code entry g → (n f : ℕ) → Chain code entry n f → n ≤ 63
unfolding Has
few_calls code entry g is n f chain = elim (cases_lt 63 n) [ inl more ↦ absurd (is.sound Deep (n, f, chain, more)) | inr few ↦ few ]

-- what a graph hands over
pub flowing_of : (p : Program) (g : Flow) → IsGraph p.code p.entry g → IsGraphOf p g → Flowing p
flowing_of p g is of =
    let code : Code = p.code in
    let there = entry_code code p.entry g is in
    record {
      entry = (inl (refl, there), reached_first code is_any p.entry there, reached_first code is_inner p.entry there);
      good = λ u reached.
          let i = unit_stands code p.entry g u is reached in
          let sound = sound_of code p.entry g u i.0 is reached i.1 in
          record { instr = i.0; stands = i.1; direct = sound.direct; slot = sound.slot };
      leads = λ u i e reached stands from among. leads_all code u i e (sound_of code p.entry g u i is reached stands).none stands from among;
      edges = λ e edge. subst (λ es. Contains es e) (sym of.edges) ((is.edges_are e).1 edge);
      long = λ u i reached stands.
          let unit = unit_of code p.entry u i (is_control_instr i) reached stands refl in
          ap p.graph.is_long (sym unit.2) ∙ of.long unit.0 ((is.units_are unit.0).1 unit.1) ∙ unit.3;
      on = λ f e member leads inner. reached_along code is_inner f e member leads inner;
      also = λ e reached leads. reached_along code is_any p.entry e reached leads refl;
      into = λ u f reached calls. reached_first code is_inner f (leads_to_code code (edge_of u f Call) calls);
      shallow = few_calls code p.entry g is;
    }
