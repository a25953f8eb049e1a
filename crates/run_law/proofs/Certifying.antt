-- The certificate at the starts of blocks keeps the facts along every edge.
use Rattle.std.proofs.Common.{◌≡◌, ◌∙◌, refl, sym, ap, subst, ℕ, zero, suc, ◌+◌, ◌<◌, ◌≤◌, ◌^◌, Bool, true, false, List, length, arith, ◌⊎◌, inl, inr}
use Rattle.std.specs.Prelude.{if◌then◌else◌, Option, Some, None, replicate, slice_index, slice_index_or}
use Rattle.std.specs.List.{Contains}
use Rattle.std.specs.Option.{option_and_then}
use Rattle.std.proofs.lemmas.Bool.{cases_lt}
use Rattle.visa_io.specs.declared.records.Code.{Code}
use Rattle.mips_isa.specs.Words.{signed}
use Rattle.mips_isa.specs.declared.instr.Instr.{Instr}
use Rattle.flow_graph.specs.Code.{instr_at, is_control_at, is_control_instr}
use Rattle.flow_graph.specs.Edges.{edge_of, target_of as named_target}
use Rattle.flow_graph.specs.Faults.{edges_if}
use Rattle.flow_graph.specs.Reached.{CallsAt, Leads, Reached, target_at}
use Rattle.flow_graph.specs.declared.parts.Edge.{Edge}
use Rattle.flow_graph.specs.declared.parts.EdgeKind.{EdgeKind}
use Rattle.flow_graph.specs.declared.parts.EdgeKind.TheVariants.{Next, Taken, Call, Over}
use Rattle.range_facts.specs.Along.{after_instr, begun}
use Rattle.range_facts.specs.Fit.{IsAnswer}
use Rattle.range_facts.specs.Ranges.{Holds, unknown}
use Rattle.range_facts.specs.Transfer.{AreFacts, fact_of}
use Rattle.range_facts.specs.declared.along.Along.{Along}
use Rattle.range_facts.specs.declared.tests.Test.{Test}
use Rattle.range_facts.specs.declared.facts.Facts.{Facts}
use Rattle.range_facts.proofs.Values.{unknown_holds}
use Rattle.std.proofs.lemmas.List.{get_or-replicate, get_or_past, length-replicate}
use Rattle.run_law.specs.Advance.{AreRegisters}
use Rattle.run_law.specs.Certificate.{Blocked, Blocks, Certificate, along_kind, before_nth, behind, behind_first, behind_slot_if, fact_along, fact_if, masked_if, over_call}
use Rattle.run_law.specs.Fits.{Fits}
use Rattle.run_law.specs.Instructions.{is_direct}
use Rattle.run_law.specs.Program.{AreLeft, Flowing, Kept, Program, refined_along}
use Rattle.run_law.proofs.Calling.{call_among}
use Rattle.run_law.proofs.Coded.{control_there, same_instr}
use Rattle.run_law.proofs.Flows.{own_of}

-- at a block's start no comparison is known
no_test : (n r : ℕ) → slice_index_or (replicate {A = Option Test} n None) r None ≡ None
no_test n r = elim (cases_lt r n) [
  | inl low ↦ get_or-replicate n r None None low
  | inr high ↦ get_or_past (replicate {A = Option Test} n None) r None (omega (arith, high, length-replicate {A = Option Test} n None))
]

-- registers that fit a start's facts: words with values of them
pub begins : (f : Facts) (registers : List ℕ) → AreFacts f → length registers ≡ 32
    → ((r : ℕ) → slice_index registers r < 2 ^ 32)
    → ((r : ℕ) → r < 32 → Holds (fact_of f r) (signed (slice_index registers r))) → Fits (begun f) registers
begins f registers are long words holds = record {
  facts = are;
  fit = record {
    long = long;
    words = words;
    holds = λ r. elim (cases_lt r 32) [ inl low ↦ holds r low | inr high ↦ subst (λ s. Holds s (signed (slice_index registers r))) (sym (beyond f r are high)) (unknown_holds (slice_index registers r) (words r)) ];
    meant = λ r. subst (λ o. IsAnswer o (slice_index registers r) registers) (sym (no_test 32 r)) tt;
  };
}
  where
    beyond : (f : Facts) (r : ℕ) → AreFacts f → 32 ≤ r → fact_of f r ≡ unknown
    beyond f r are high = get_or_past f.ranges r unknown (omega (arith, high, are.long))

-- at a block's start the facts are the block's
at_start : (code : Code) (b : Blocks) (n : ℕ) → b.starts (slice_index b.units n) ≡ true
    → before_nth code b n ≡ begun (b.facts (slice_index b.units n))
unfolding before_nth
at_start code b zero is = refl
at_start code b (suc n) is = ap (λ t. if t then begun (b.facts (slice_index b.units (suc n))) else behind (instr_at code (slice_index b.units n)) (slice_index b.units n) (before_nth code b n)) is

pub starts_at : (p : Program) (b : Blocks) (u : ℕ) → Blocked p b → Certificate p b → Reached p.code p.entry u
    → b.starts u ≡ true → p.before u ≡ begun (b.facts u)
starts_at p b u blocked certified reached is =
    let there = blocked.indexed u reached in
    certified.before_is u reached ∙ at_start p.code b (b.index u) (ap b.starts there ∙ is) ∙ ap (λ v. begun (b.facts v)) there

-- and within a block those behind the unit before
goes_on : (p : Program) (b : Blocks) (u : ℕ) (i : Instr) → Blocked p b → Certificate p b → Reached p.code p.entry u
    → Reached p.code p.entry (u + 4) → instr_at p.code u ≡ Some i → b.starts (u + 4) ≡ false
    → p.before (u + 4) ≡ after_instr i u (p.before u)
unfolding before_nth
goes_on p b u i blocked certified reached next stands is =
    let n = b.index u in
    let here = blocked.indexed u reached in
    let there = blocked.indexed (u + 4) next in
    let follows = blocked.follows u reached next is in
    let no_start : b.starts (slice_index b.units (suc n)) ≡ false = ap b.starts (ap (λ k. slice_index b.units k) (sym follows) ∙ there) ∙ is in
    certified.before_is (u + 4) next ∙ ap (before_nth p.code b) follows
    ∙ ap (λ t. if t then begun (b.facts (slice_index b.units (suc n))) else behind (instr_at p.code (slice_index b.units n)) (slice_index b.units n) (before_nth p.code b n)) no_start
    ∙ ap (λ v. behind (instr_at p.code v) v (before_nth p.code b n)) here ∙ ap (λ q. behind q u (before_nth p.code b n)) stands ∙ ap (after_instr i u) (sym (certified.before_is u reached))

-- facts that an edge keeps pass on into the start of its block
passes_in : (p : Program) (b : Blocks) (e : Edge) (a : Along) (registers : List ℕ) → Blocked p b → Certificate p b
    → Reached p.code p.entry e.from → Reached p.code p.entry e.to → Leads p.code e → b.starts e.to ≡ true
    → ((r : ℕ) → r < 32 → fact_along p e r ≡ Some (fact_of a.facts r)) → Fits a registers
    → Fits (p.before e.to) registers
passes_in p b e a registers blocked certified reached to leads is along fits =
    let fit = fits.fit in
    subst (λ c. Fits c registers) (sym (starts_at p b e.to blocked certified to is))
    (begins (b.facts e.to) registers (certified.facts e.to to is) fit.long fit.words (λ r low. certified.kept e r reached leads is low (fact_of a.facts r) (along r low) (signed (slice_index registers r)) (fit.holds r)))

-- what stands at the end of each kind of edge
pub plain_along : (p : Program) (u : ℕ) (i : Instr) (r : ℕ) → instr_at p.code u ≡ Some i → is_control_instr i ≡ false
    → fact_along p (edge_of u (u + 4) Next) r ≡ Some (fact_of (after_instr i u (p.before u)).facts r)
unfolding fact_along
plain_along p u i r stands plain =
    let e : Edge = edge_of u (u + 4) Next in
    ap (λ t. fact_if p e r (if t then behind_slot_if p.code u (refined_along p e) else Some (behind_first p u))) (control_there p.code u i stands ∙ plain) ∙ ap (λ o. fact_if p e r (Some (behind o u (p.before u)))) stands

pub turn_by : (p : Program) (e : Edge) (k : EdgeKind) (i s : Instr) (a : Along) (r : ℕ) → e.kind ≡ k
    → (k ≡ Next) ⊎ (k ≡ Taken) → instr_at p.code e.from ≡ Some i → is_control_instr i ≡ true
    → instr_at p.code (e.from + 4) ≡ Some s → refined_along p e ≡ Some a
    → fact_along p e r ≡ Some (fact_of (after_instr s (e.from + 4) a).facts r)
unfolding fact_along
turn_by p e k i s a r is kind stands control slot refined =
    let test = control_there p.code e.from i stands ∙ control in
    let last : behind_slot_if p.code e.from (refined_along p e) ≡ Some (after_instr s (e.from + 4) a) = ap (behind_slot_if p.code e.from) refined ∙ ap (λ o. Some (behind o (e.from + 4) a)) slot in
    let way : Option Along = (if is_control_at p.code e.from then behind_slot_if p.code e.from (refined_along p e) else Some (behind_first p e.from)) in
    let whole : way ≡ Some (after_instr s (e.from + 4) a) = ap (λ t. if t then behind_slot_if p.code e.from (refined_along p e) else Some (behind_first p e.from)) test ∙ last in
    elim kind [
      | inl next ↦ by_kind Next (is ∙ next) (whole)
      | inr taken ↦ by_taken (is ∙ taken) (whole)
    ]
  where
    out : Option Along
    out = (if is_control_at p.code e.from then behind_slot_if p.code e.from (refined_along p e) else Some (behind_first p e.from))

    by_kind : (j : EdgeKind) → e.kind ≡ Next → out ≡ Some (after_instr s (e.from + 4) a)
        → fact_if p e r (along_kind p e.kind e) ≡ Some (fact_of (after_instr s (e.from + 4) a).facts r)
    by_kind j next whole = ap (λ q. fact_if p e r (along_kind p q e)) next ∙ ap (fact_if p e r) whole ∙ ap (λ q. Some (over_call p q e.from r (fact_of (after_instr s (e.from + 4) a).facts r))) next

    by_taken : e.kind ≡ Taken → out ≡ Some (after_instr s (e.from + 4) a)
        → fact_if p e r (along_kind p e.kind e) ≡ Some (fact_of (after_instr s (e.from + 4) a).facts r)
    by_taken taken whole = ap (λ q. fact_if p e r (along_kind p q e)) taken ∙ ap (fact_if p e r) whole ∙ ap (λ q. Some (over_call p q e.from r (fact_of (after_instr s (e.from + 4) a).facts r))) taken

pub call_along : (p : Program) (u g : ℕ) (i s : Instr) (r : ℕ) → instr_at p.code u ≡ Some i
    → instr_at p.code (u + 4) ≡ Some s
    → fact_along p (edge_of u g Call) r ≡ Some (fact_of (after_instr s (u + 4) (after_instr i u (p.before u))).facts r)
unfolding fact_along
call_along p u g i s r stands slot =
    ap (λ o. Some (fact_of (behind o (u + 4) (behind_first p u)).facts r)) slot ∙ ap (λ o. Some (fact_of (after_instr s (u + 4) (behind o u (p.before u))).facts r)) stands

pub over_along : (p : Program) (u g : ℕ) (i s : Instr) (r : ℕ) → instr_at p.code u ≡ Some i
    → instr_at p.code (u + 4) ≡ Some s → target_at p.code u ≡ Some g
    → fact_along p (edge_of u (u + 8) Over) r ≡ Some (if p.mask g r then unknown else fact_of (after_instr s (u + 4) (after_instr i u (p.before u))).facts r)
unfolding fact_along
over_along p u g i s r stands slot target =
    ap (λ o. Some (over_call p Over u r (fact_of (behind o (u + 4) (behind_first p u)).facts r))) slot
    ∙ ap (λ o. Some (over_call p Over u r (fact_of (after_instr s (u + 4) (behind o u (p.before u))).facts r))) stands
    ∙ ap (λ o. Some (if masked_if p.mask o r then unknown else fact_of (after_instr s (u + 4) (after_instr i u (p.before u))).facts r)) target

-- over a call: what the function called may write is unknown, the rest is as behind the slot
over_fits : (p : Program) (b : Blocks) (u g : ℕ) (i s : Instr) (saved registers : List ℕ) → Blocked p b
    → Certificate p b → Reached p.code p.entry u → Reached p.code p.entry (u + 8)
    → Leads p.code (edge_of u (u + 8) Over) → b.starts (u + 8) ≡ true
    → instr_at p.code u ≡ Some i → instr_at p.code (u + 4) ≡ Some s → target_at p.code u ≡ Some g
    → Fits (after_instr s (u + 4) (after_instr i u (p.before u))) saved → AreLeft p g saved registers
    → Fits (p.before (u + 8)) registers
over_fits p b u g i s saved registers blocked certified reached to leads is stands slot target fits left =
    let are = left.are in
    let a : Along = after_instr s (u + 4) (after_instr i u (p.before u)) in
    subst (λ c. Fits c registers) (sym (starts_at p b (u + 8) blocked certified to is))
    (begins (b.facts (u + 8)) registers (certified.facts (u + 8) to is) are.length_is (all_words are)
    (λ r low. certified.kept (edge_of u (u + 8) Over) r reached leads is low (if p.mask g r then unknown else fact_of a.facts r) (over_along p u g i s r stands slot target) (signed (slice_index registers r)) (by_mask r low (p.mask g r) refl)))
  where
    all_words : AreRegisters registers → (r : ℕ) → slice_index registers r < 2 ^ 32
    all_words are r = elim (cases_lt r 32) [
      | inl low ↦ are.words r low
      | inr high ↦ let none : slice_index registers r ≡ 0 = get_or_past registers r 0 (omega (arith, high, are.length_is)) in omega (arith, none)
    ]

    by_mask : (r : ℕ) → r < 32 → (t : Bool) → p.mask g r ≡ t
        → Holds (if p.mask g r then unknown else fact_of (after_instr s (u + 4) (after_instr i u (p.before u))).facts r) (signed (slice_index registers r))
    by_mask r low true is = subst (λ t. Holds (if t then unknown else fact_of (after_instr s (u + 4) (after_instr i u (p.before u))).facts r) (signed (slice_index registers r))) (sym is) (unknown_holds (slice_index registers r) (left.are.words r low))
    by_mask r low false is = elim (left.kept r low) [
      | inl masked ↦ let clash : true ≡ false = sym masked ∙ is in cc
      | inr same ↦ subst (λ t. Holds (if t then unknown else fact_of (after_instr s (u + 4) (after_instr i u (p.before u))).facts r) (signed (slice_index registers r))) (sym is)
          (subst (λ v. Holds (fact_of (after_instr s (u + 4) (after_instr i u (p.before u))).facts r) (signed v)) (sym same) (fits.fit.holds r))
    ]

-- a unit that leads along a Call edge calls: its first instruction is a call of this function
record IsCall (p : Program) (u g : ℕ) : Type 0 where
  control : is_control_at p.code u ≡ true
  over : Leads p.code (edge_of u (u + 8) Over)
  target : target_at p.code u ≡ Some g

called : (p : Program) (u g : ℕ) (i : Instr) → Flowing p → Reached p.code p.entry u → CallsAt p.code u g
    → instr_at p.code u ≡ Some i → IsCall p u g
called p u g i flowing reached calls stands =
    let good = flowing.good u reached in
    let same : good.instr ≡ i = same_instr p.code u good.instr i good.stands stands in
    let among = subst (λ es. Contains es (edge_of u g Call)) (ap (λ o. edges_if o u) stands) (own_of p.code (edge_of u g Call) calls).1 in
    let call = call_among i u g (subst (λ j. is_direct j ≡ true) same good.direct) among in
    record {
      control = control_there p.code u i stands ∙ call.control;
      over = flowing.leads u i (edge_of u (u + 8) Over) reached stands refl call.over;
      target = ap (option_and_then (λ j. named_target j u)) stands ∙ call.target;
    }

pub kept_of : (p : Program) (b : Blocks) → Flowing p → Blocked p b → Certificate p b → Kept p
kept_of p b flowing blocked certified =
    record {
      plain = λ u i reached stands plain leads registers fits. by_start u i reached stands plain leads registers fits (b.starts (u + 4)) refl;
      turn = λ e i s a reached leads kind stands control slot refined registers fits.
          let to = flowing.also e reached leads in
          passes_in p b e (after_instr s (e.from + 4) a) registers blocked certified reached to leads (blocked.ends e reached leads (control_there p.code e.from i stands ∙ control)) (λ r low. turn_by p e e.kind i s a r refl kind stands control slot refined) fits;
      call = λ u g i s reached calls stands slot registers fits.
          let to = flowing.also (edge_of u g Call) reached calls in
          passes_in p b (edge_of u g Call) (after_instr s (u + 4) (after_instr i u (p.before u))) registers blocked certified reached to calls (blocked.ends (edge_of u g Call) reached calls (is_control_of u g i reached calls stands)) (λ r low. call_along p u g i s r stands slot) fits;
      over = λ u g i s reached calls stands slot saved registers fits left.
          let call = called p u g i flowing reached calls stands in
          let to = flowing.also (edge_of u (u + 8) Over) reached call.over in
          over_fits p b u g i s saved registers blocked certified reached to call.over (blocked.ends (edge_of u (u + 8) Over) reached call.over call.control) stands slot call.target fits left;
    }
  where
    is_control_of : (u g : ℕ) (i : Instr) → Reached p.code p.entry u → CallsAt p.code u g → instr_at p.code u ≡ Some i
        → is_control_at p.code u ≡ true
    is_control_of u g i reached calls stands = (called p u g i flowing reached calls stands).control

    by_start : (u : ℕ) (i : Instr) → Reached p.code p.entry u → instr_at p.code u ≡ Some i
        → is_control_instr i ≡ false → Leads p.code (edge_of u (u + 4) Next) → (registers : List ℕ)
        → Fits (after_instr i u (p.before u)) registers → (t : Bool) → b.starts (u + 4) ≡ t
        → Fits (p.before (u + 4)) registers
    by_start u i reached stands plain leads registers fits true is =
        let to = flowing.also (edge_of u (u + 4) Next) reached leads in
        passes_in p b (edge_of u (u + 4) Next) (after_instr i u (p.before u)) registers blocked certified reached to leads is (λ r low. plain_along p u i r stands plain) fits
    by_start u i reached stands plain leads registers fits false is =
        let to = flowing.also (edge_of u (u + 4) Next) reached leads in
        subst (λ c. Fits c registers) (sym (goes_on p b u i blocked certified reached to stands is)) fits
