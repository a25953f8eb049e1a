-- Edges of recorded units, and the facts at their ends.
use Rattle.std.proofs.Common.{◌≡◌, ◌∙◌, refl, sym, ap, subst, ℕ, zero, suc, ◌+◌, ◌<◌, Bool, true, false, cond, eqb, arith, List, [], ◌∷◌, ◌⊎◌, inl, inr, Option, Some, None, length, get_or}
use Rattle.std.specs.Prelude.{◌&&◌, ◌||◌, not, is_none, Contains, slice_index}
use Rattle.std.specs.List.{list_any}
use Rattle.std.specs.List.Sorted.{IsStrictlyIncreasing}
use Rattle.std.specs.Option.{option_and_then}
use Rattle.std.proofs.lemmas.Bool.{eq-eqb, ne_eqb, or_parts}
use Rattle.std.proofs.lemmas.List.Kept.{AllPairs-from_increasing}
use Rattle.visa_io.specs.declared.records.Code.{Code}
use Rattle.mips_isa.specs.declared.instr.Instr.{Instr}
use Rattle.flow_graph.specs.Code.{instr_at, is_code, is_control_at, is_control_instr, passes}
use Rattle.mips_isa.specs.Kinds.{is_control, kind_of}
use Rattle.mips_isa.specs.declared.instr.Kind.{Kind}
use Rattle.mips_isa.specs.declared.instr.Kind.TheVariants as kind
use Rattle.flow_graph.specs.Edges.{edge_of, edges_by, edges_of_kind, target_of}
use Rattle.flow_graph.specs.Faults.{edges_if, has_indirect, has_link_branch, has_reserved, has_slot_control, is_faulty, is_reserved, leaves_code, own_edges}
use Rattle.flow_graph.specs.Flow.{Flow, HasShape, IsGraph, IsUnit}
use Rattle.flow_graph.specs.Reached.{Leads, Reached, target_at}
use Rattle.flow_graph.specs.declared.parts.Edge.{Edge}
use Rattle.flow_graph.specs.declared.parts.EdgeKind.{EdgeKind}
use Rattle.flow_graph.specs.declared.parts.EdgeKind.TheVariants.{Next, Taken, Call, Return, Over}
use Rattle.flow_graph.specs.declared.parts.Unit.{Unit as FlowUnit}
use Rattle.range_facts.specs.Along.{after_instr, refined_by}
use Rattle.range_facts.specs.declared.along.Along.{Along}
use Rattle.range_facts.specs.Ranges.{IsWithin, unknown}
use Rattle.range_facts.specs.Transfer.{fact_of}
use Rattle.range_facts.specs.declared.facts.Facts.{Facts}
use Rattle.range_facts.specs.declared.strided.Strided.{Strided}
use Rattle.run_law.specs.Certificate.{Blocks, IsKept, along_kind, behind, behind_first, behind_slot, behind_slot_if, fact_along, fact_if, masked_if, over_call}
use Rattle.run_law.specs.Fits.{refined_if}
use Rattle.bound_checker.specs.Checked.{IsLost}
use Rattle.bound_checker.specs.Lost.{IsLeastLost, callee_of, fact_over}
use Rattle.run_law.specs.Program.{Program, is_taken, refined_along}
use Rattle.run_law.proofs.Flows.{own_of}
use Rattle.bound_checker.specs.Ends.{behind_first_of, behind_if, behind_slot_of, end_of, turned}
use Rattle.bound_checker.specs.Lines.{place_in}

-- the place of a number in a rising list
tail_rises : (x : ℕ) (xs : List ℕ) → IsStrictlyIncreasing (x ∷ xs) → IsStrictlyIncreasing xs
tail_rises x xs rise k within =
    let same : suc k + 1 ≡ suc (k + 1) = omega arith in
    subst (λ j. slice_index xs k < slice_index (x ∷ xs) j) same (rise (suc k) (omega (arith, within)))

pub place_is : (xs : List ℕ) (n a : ℕ) → IsStrictlyIncreasing xs → n < length xs → slice_index xs n ≡ a → place_in xs a ≡ n
place_is [] n a rise within is = absurd (omega (arith, within))
place_is (x ∷ xs) zero a rise within is = ap (λ b. cond b 0 (suc (place_in xs a))) (eq-eqb x a is)
place_is (x ∷ xs) (suc n) a rise within is =
    let below : x < get_or xs n 0 = AllPairs-from_increasing (x ∷ xs) rise 0 (suc n) 0 (omega arith) within in
    let apart : eqb x a ≡ false = ne_eqb x a (λ e. omega (arith, below, is, e)) in
    ap (λ b. cond b 0 (suc (place_in xs a))) apart ∙ ap suc (place_is xs n a (tail_rises x xs rise) (omega (arith, within)) is)

-- the unit that an edge leaves is recorded
none_in : {X : Type 0} (x : X) → Contains [] x → ⊥
none_in x (k, below, is) = omega (arith, below)

second_false : (a b : Bool) → a ≡ true → (a && b) ≡ false → b ≡ false
second_false true b yes_a is = is
second_false false b yes_a is = cc

not_code : (b : Bool) → not b ≡ false → b ≡ true
not_code true is = refl
not_code false is = cc

some_there : (o : Option Instr) → is_none o ≡ false → (s : Instr) × (o ≡ Some s)
some_there None is = absurd (cc)
some_there (Some s) is = (s, refl)

pub record IsRecorded (g : Flow) (u : ℕ) : Type 0 where
  pub unit : FlowUnit
  pub among : Contains g.units unit
  pub at_is : unit.at ≡ u

pub unit_recorded : (code : Code) (g : Flow) (e : Edge) → IsGraph code g.entry g → Reached code g.entry e.from → Leads code e → IsRecorded g e.from
unit_recorded code g e graph reached leads = by_first (instr_at code e.from) refl
  where
    own : (is_faulty code e.from ≡ false) × Contains (own_edges code e.from) e
    own = own_of code e leads

    sound : (leaves_code code e.from ≡ false) × (has_reserved code e.from ≡ false)
    sound =
        let p = or_parts (has_reserved code e.from || has_indirect code e.from || has_link_branch code e.from || has_slot_control code e.from) (leaves_code code e.from) own.0 in
        let q = or_parts (has_reserved code e.from || has_indirect code e.from || has_link_branch code e.from) (has_slot_control code e.from) p.0 in
        let r = or_parts (has_reserved code e.from || has_indirect code e.from) (has_link_branch code e.from) q.0 in
        let s = or_parts (has_reserved code e.from) (has_indirect code e.from) r.0 in
        (p.1, s.0)

    slot_of : is_control_at code e.from ≡ true → (s : Instr) × (instr_at code (e.from + 4) ≡ Some s)
    slot_of control =
        let l = or_parts (is_control_at code e.from && not (is_code code (e.from + 4))) (list_any (λ d. not (is_code code d.to)) (own_edges code e.from)) sound.0 in
        let there = not_code (is_code code (e.from + 4)) (second_false (is_control_at code e.from) (not (is_code code (e.from + 4))) control l.0) in
        let h = or_parts (is_reserved code e.from) (is_control_at code e.from && is_reserved code (e.from + 4)) sound.1 in
        let fine = second_false (is_control_at code e.from) (is_reserved code (e.from + 4)) control h.1 in
        some_there (instr_at code (e.from + 4)) (second_false (is_code code (e.from + 4)) (is_none (instr_at code (e.from + 4))) there fine)

    by_kind : (i : Instr) → instr_at code e.from ≡ Some i → (b : Bool) → is_control_instr i ≡ b → IsRecorded g e.from
    by_kind i stands true control =
        let s = slot_of (ap (λ o. passes_control o) stands ∙ control) in
        let unit : FlowUnit = record { at = e.from; length = 8; first = i; slot = Some s.0 } in
        record {
          unit = unit;
          among = (graph.units_are unit).1 (record { reached = reached; first = stands; shape = subst (λ b. HasShape code unit b) (sym control) (s.1, refl) });
          at_is = refl;
        }
      where
        passes_control : Option Instr → Bool
        passes_control None = false
        passes_control (Some j) = is_control_instr j
    by_kind i stands false plain =
        let unit : FlowUnit = record { at = e.from; length = 4; first = i; slot = None } in
        record {
          unit = unit;
          among = (graph.units_are unit).1 (record { reached = reached; first = stands; shape = subst (λ b. HasShape code unit b) (sym plain) (refl, refl) });
          at_is = refl;
        }

    by_first : (o : Option Instr) → instr_at code e.from ≡ o → IsRecorded g e.from
    by_first None is = absurd (none_in e (subst (λ o. Contains (edges_if o e.from) e) is own.1))
    by_first (Some i) is = by_kind i is (is_control_instr i) refl

-- the facts at the end of an edge are those of the recorded unit
slot_same : (code : Code) (entry : ℕ) (unit : FlowUnit) (a : Along) → IsUnit code entry unit → is_control_instr unit.first ≡ true → behind_slot code unit.at a ≡ behind_slot_of unit a
slot_same code entry unit a is control = ap (λ o. behind o (unit.at + 4) a) (subst (λ b. HasShape code unit b) control is.shape).0

slot_same_if : (code : Code) (entry : ℕ) (unit : FlowUnit) (o : Option Along) → IsUnit code entry unit → is_control_instr unit.first ≡ true → behind_slot_if code unit.at o ≡ behind_if unit o
slot_same_if code entry unit None is control = refl
slot_same_if code entry unit (Some a) is control = ap Some (slot_same code entry unit a is control)

turn_same : (code : Code) (entry : ℕ) (unit : FlowUnit) (a : Along) (taken : Bool) → IsUnit code entry unit
    → cond (is_control_at code unit.at) (behind_slot_if code unit.at (refined_if (instr_at code unit.at) taken a)) (Some (behind (instr_at code unit.at) unit.at a)) ≡ turned unit taken a
turn_same code entry unit a taken is =
    ap (λ o. cond (passes is_control_instr o) (behind_slot_if code unit.at (refined_if o taken a)) (Some (behind o unit.at a))) is.first ∙ by_control (is_control_instr unit.first) refl
  where
    by_control : (b : Bool) → is_control_instr unit.first ≡ b
        → cond b (behind_slot_if code unit.at (refined_by unit.first taken a)) (Some (after_instr unit.first unit.at a)) ≡ cond b (behind_if unit (refined_by unit.first taken a)) (Some (behind_first_of unit a))
    by_control true control = slot_same_if code entry unit (refined_by unit.first taken a) is control
    by_control false plain = refl

call_same : (code : Code) (entry : ℕ) (unit : FlowUnit) (a : Along) → IsUnit code entry unit → is_control_instr unit.first ≡ true
    → behind_slot code unit.at (behind (instr_at code unit.at) unit.at a) ≡ behind_slot_of unit (behind_first_of unit a)
call_same code entry unit a is control =
    ap (λ o. behind_slot code unit.at (behind o unit.at a)) is.first ∙ slot_same code entry unit (behind_first_of unit a) is control

-- an edge of a call is that of a control instruction
lone_edge : (d e : Edge) → Contains (d ∷ []) e → d ≡ e
lone_edge d e (zero, below, is) = is
lone_edge d e (suc k, below, is) = absurd (omega (arith, below))

next_only : (at : ℕ) (i : Instr) (e : Edge) → Contains (edge_of at (at + 4) Next ∷ []) e → (e.kind ≡ Call) ⊎ (e.kind ≡ Over) → ⊥
next_only at i e among (inl is) = let same = lone_edge (edge_of at (at + 4) Next) e among in let k : Next ≡ Call = ap (λ (d : Edge). d.kind) same ∙ is in cc
next_only at i e among (inr is) = let same = lone_edge (edge_of at (at + 4) Next) e among in let k : Next ≡ Over = ap (λ (d : Edge). d.kind) same ∙ is in cc

call_kind : (k : Kind) (i : Instr) (at : ℕ) (e : Edge) → Contains (edges_of_kind k i at) e → (e.kind ≡ Call) ⊎ (e.kind ≡ Over) → is_control k ≡ true
call_kind kind.Branch i at e among calls = refl
call_kind kind.Jump i at e among calls = refl
call_kind kind.Call i at e among calls = refl
call_kind kind.Return i at e among calls = refl
call_kind kind.Indirect i at e among calls = refl
call_kind kind.Stop i at e among calls = absurd (none_in e among)
call_kind kind.Plain i at e among calls = absurd (next_only at i e among calls)
call_kind kind.Mul i at e among calls = absurd (next_only at i e among calls)
call_kind kind.Div i at e among calls = absurd (next_only at i e among calls)
call_kind kind.Load i at e among calls = absurd (next_only at i e among calls)
call_kind kind.Store i at e among calls = absurd (next_only at i e among calls)

call_control : (code : Code) (entry : ℕ) (unit : FlowUnit) (e : Edge) → IsUnit code entry unit → unit.at ≡ e.from → Leads code e → (e.kind ≡ Call) ⊎ (e.kind ≡ Over) → is_control_instr unit.first ≡ true
unfolding edges_by
call_control code entry unit e is at leads calls =
    let own = (own_of code e leads).1 in
    let stands : instr_at code e.from ≡ Some unit.first = ap (instr_at code) (sym at) ∙ is.first in
    call_kind (kind_of unit.first) unit.first e.from e (subst (λ o. Contains (edges_if o e.from) e) stands own) calls

-- the facts along an edge are those at the end of the recorded unit's
pub end_is : (p : Program) (unit : FlowUnit) (e : Edge) (a : Along) → IsUnit p.code p.entry unit → unit.at ≡ e.from → p.before e.from ≡ a → Leads p.code e → along_kind p e.kind e ≡ end_of unit e.kind a
unfolding end_of
end_is p unit e a is at before leads = by_kind e.kind refl
  where
    here : (k : EdgeKind) → e.kind ≡ k → (taken : Bool) → is_taken k ≡ taken
        → cond (is_control_at p.code e.from) (behind_slot_if p.code e.from (refined_along p e)) (Some (behind_first p e.from)) ≡ turned unit taken a
    here k kind_is taken t =
        subst (λ u. cond (is_control_at p.code u) (behind_slot_if p.code u (refined_if (instr_at p.code u) (is_taken e.kind) (p.before e.from))) (Some (behind (instr_at p.code u) u (p.before e.from))) ≡ turned unit taken a) at
        (ap (λ b. cond (is_control_at p.code unit.at) (behind_slot_if p.code unit.at (refined_if (instr_at p.code unit.at) (is_taken e.kind) b)) (Some (behind (instr_at p.code unit.at) unit.at b))) before
        ∙ ap (λ b. cond (is_control_at p.code unit.at) (behind_slot_if p.code unit.at (refined_if (instr_at p.code unit.at) b a)) (Some (behind (instr_at p.code unit.at) unit.at a))) (ap is_taken kind_is ∙ t)
        ∙ turn_same p.code p.entry unit a taken is)

    called : (e.kind ≡ Call) ⊎ (e.kind ≡ Over) → behind_slot p.code e.from (behind_first p e.from) ≡ behind_slot_of unit (behind_first_of unit a)
    called calls =
        subst (λ u. behind_slot p.code u (behind (instr_at p.code u) u (p.before e.from)) ≡ behind_slot_of unit (behind_first_of unit a)) at
        (ap (λ b. behind_slot p.code unit.at (behind (instr_at p.code unit.at) unit.at b)) before ∙ call_same p.code p.entry unit a is (call_control p.code p.entry unit e is at leads calls))

    by_kind : (k : EdgeKind) → e.kind ≡ k → along_kind p k e ≡ end_of unit k a
    by_kind Next k = here Next k false refl
    by_kind Taken k = here Taken k true refl
    by_kind Call k = ap Some (called (inl k))
    by_kind Over k = ap Some (called (inr k))
    by_kind Return k = refl

-- and so the fact of a register
target_same : (p : Program) (unit : FlowUnit) (u : ℕ) → IsUnit p.code p.entry unit → unit.at ≡ u → target_at p.code u ≡ target_of unit.first unit.at
target_same p unit u is at = subst (λ v. target_at p.code v ≡ target_of unit.first unit.at) at (ap (λ o. option_and_then (λ i. target_of i unit.at) o) is.first)

over_same : (p : Program) (unit : FlowUnit) (k : EdgeKind) (u r : ℕ) (f : Facts) → IsUnit p.code p.entry unit → unit.at ≡ u → over_call p k u r (fact_of f r) ≡ fact_over p.mask (callee_of k unit) f r
over_same p unit Over u r f is at = ap (λ t. cond (masked_if p.mask t r) unknown (fact_of f r)) (target_same p unit u is at)
over_same p unit Next u r f is at = refl
over_same p unit Taken u r f is at = refl
over_same p unit Call u r f is at = refl
over_same p unit Return u r f is at = refl

pub fact_is : (p : Program) (unit : FlowUnit) (e : Edge) (a b : Along) (r : ℕ) → IsUnit p.code p.entry unit → unit.at ≡ e.from → p.before e.from ≡ a → Leads p.code e → end_of unit e.kind a ≡ Some b
    → fact_along p e r ≡ Some (fact_over p.mask (callee_of e.kind unit) b.facts r)
unfolding fact_along
fact_is p unit e a b r is at before leads end =
    ap (fact_if p e r) (end_is p unit e a is at before leads ∙ end) ∙ ap Some (over_same p unit e.kind e.from r b.facts is at)

pub fact_none : (p : Program) (unit : FlowUnit) (e : Edge) (a : Along) (r : ℕ) → IsUnit p.code p.entry unit → unit.at ≡ e.from → p.before e.from ≡ a → Leads p.code e → end_of unit e.kind a ≡ None → fact_along p e r ≡ None
unfolding fact_along
fact_none p unit e a r is at before leads end = ap (fact_if p e r) (end_is p unit e a is at before leads ∙ end)

-- what a search along an edge tells
pub kept_by_none : (p : Program) (b : Blocks) (unit : FlowUnit) (e : Edge) (a : Along) → IsUnit p.code p.entry unit → unit.at ≡ e.from → p.before e.from ≡ a → Leads p.code e → end_of unit e.kind a ≡ None → IsLost p b e None
kept_by_none p b unit e a is at before leads end r below s same = let never : None ≡ Some s = sym (fact_none p unit e a r is at before leads end) ∙ same in absurd (cc)

kept_at : (p : Program) (b : Blocks) (e : Edge) (r : ℕ) (t : Strided) → fact_along p e r ≡ Some t → IsWithin t (fact_of (b.facts e.to) r) → IsKept p b e r
kept_at p b e r t is within s same = let to : t ≡ s = cc in subst (λ u. IsWithin u (fact_of (b.facts e.to) r)) to within

pub lost_by : (p : Program) (b : Blocks) (unit : FlowUnit) (e : Edge) (a end : Along) (target : Facts) (o : Option ℕ) → IsUnit p.code p.entry unit → unit.at ≡ e.from → p.before e.from ≡ a → Leads p.code e
    → end_of unit e.kind a ≡ Some end → target ≡ b.facts e.to → IsLeastLost p.mask (callee_of e.kind unit) end.facts target o → IsLost p b e o
lost_by p b unit e a end target None is at before leads same to least =
    λ r below. kept_at p b e r (fact_over p.mask (callee_of e.kind unit) end.facts r) (fact_is p unit e a end r is at before leads same) (subst (λ f. IsWithin (fact_over p.mask (callee_of e.kind unit) end.facts r) (fact_of f r)) to (least r below))
lost_by p b unit e a end target (Some q) is at before leads same to least =
    record {
      register = least.0;
      fails = λ kept. least.1 (subst (λ f. IsWithin (fact_over p.mask (callee_of e.kind unit) end.facts q) (fact_of f q)) (sym to) (kept (fact_over p.mask (callee_of e.kind unit) end.facts q) (fact_is p unit e a end q is at before leads same)));
      earlier = λ r below. kept_at p b e r (fact_over p.mask (callee_of e.kind unit) end.facts r) (fact_is p unit e a end r is at before leads same)
          (subst (λ f. IsWithin (fact_over p.mask (callee_of e.kind unit) end.facts r) (fact_of f r)) to (least.2 r below));
    }
