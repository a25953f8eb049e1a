-- A state that follows a legal walk goes on to such a state: the first instruction of a unit alone, and the slots.
use Rattle.std.proofs.Common.{◌≡◌, ◌≢◌, ◌∙◌, refl, sym, ap, subst, ℕ, ◌+◌, true, false, List, [], ◌∷◌, ◌⊎◌, inl, inr}
use Rattle.std.specs.Prelude.{Some, slice_index}
use Rattle.std.specs.List.{Contains}
use Rattle.visa_io.specs.declared.records.Region.{Region}
use Rattle.mips_isa.specs.Kinds.{kind_of, is_control}
use Rattle.mips_isa.specs.Words.{word_sum}
use Rattle.mips_isa.specs.declared.instr.Instr.{Instr}
use Rattle.mips_isa.specs.declared.instr.Kind.TheVariants as kind
use Rattle.mips_ref.specs.Facts.{WentBy}
use Rattle.mips_ref.specs.Mips.{Mips, exit_address}
use Rattle.mips_ref.specs.Step.{step_of}
use Rattle.flow_graph.specs.Code.{instr_at, is_control_instr}
use Rattle.flow_graph.specs.Edges.{edge_of}
use Rattle.flow_graph.specs.Reached.{IsFunction, IsUnitOf, Leads, Reached, is_inner}
use Rattle.flow_graph.specs.declared.parts.Edge.{Edge}
use Rattle.flow_graph.specs.declared.parts.EdgeKind.{EdgeKind}
use Rattle.flow_graph.specs.declared.parts.EdgeKind.TheVariants.{Next, Taken, Call, Return, Over}
use Rattle.loop_regions.specs.Walks.{holds}
use Rattle.run_law.specs.Advance.{AreRegisters}
use Rattle.range_facts.specs.declared.along.Along.{Along}
use Rattle.run_law.specs.Fits.{Fits}
use Rattle.range_facts.specs.Ranges.{Holds}
use Rattle.range_facts.specs.Transfer.{fact_of}
use Rattle.range_facts.specs.Along.{after_instr}
use Rattle.run_law.specs.Program.{AreLeft, Passed, Program}
use Rattle.mips_ref.specs.Ran.{ran_at}
use Rattle.mips_ref.specs.declared.records.Ran.{Ran}
use Rattle.run_law.specs.Runs.{First as AtStart, HasCode, InSlot as BeforeSlot, points}
use Rattle.run_law.proofs.Acting.{Control, control_of, plain_advances, registers_stay_words}
use Rattle.run_law.proofs.Coded.{gone_last, gone_plain, gone_slot, has_code_stays, is_first_word, is_slot_word, low, no_branch, plain_quiet, plus_four, same_instr, slot_quiet}
use Rattle.run_law.proofs.Counting.{CountDone, count_across, count_edge, count_ends, count_enters, value}
use Rattle.run_law.proofs.Fitting.{step_fits}
use Rattle.run_law.proofs.Leading.{over_leads, plain_leads, stop_traps}
use Rattle.run_law.proofs.Standing.{AtFirst, AtSlot, Below, Calling, Coming, Counts, Done, First, Follows, HasGone, Inside, Returning, Walked, below_moves, legal_top, moves_of, walked_along}

pub inner_of : (k : EdgeKind) → (k ≡ Next) ⊎ (k ≡ Taken) → is_inner k ≡ true
inner_of k (inl is) = ap is_inner is
inner_of k (inr is) = ap is_inner is

-- a Next or Taken edge inside a function
pub walked_inner : (p : Program) (q : Passed p) (f : ℕ) (e : Edge) (us : List ℕ) (below : List (List ℕ)) (es : List Edge) (registers : List ℕ)
    → Walked p f e.from us below es → Leads p.code e → (e.kind ≡ Next) ⊎ (e.kind ≡ Taken)
    → Counts p q e.to (e.from ∷ us) registers → Walked p f e.to (e.from ∷ us) below (e ∷ es)
walked_inner p q f e us below es registers walked leads kind counts =
    let flowing = q.flowing in
    let member = flowing.on f e walked.member leads (inner_of e.kind kind) in
    let reached = flowing.also e walked.reached leads in
    let edge = flowing.edges e (record { reached = walked.reached; joins = inl leads }) in
    let legal = legal_top p q e.to (e.from ∷ us) below registers counts in
    elim kind [
      | inl is ↦ walked_along p f f e us below (e.from ∷ us) below es Next walked walked.function member reached edge is refl refl legal
      | inr is ↦ walked_along p f f e us below (e.from ∷ us) below es Taken walked walked.function member reached edge is refl refl legal
    ]

-- the address after a unit's
pub next_of : (p : Program) (q : Passed p) (x y : Mips) (u : ℕ) → HasCode p.code x.memory → Reached p.code p.entry u
    → x.next_pc ≡ u → y.next_pc ≡ word_sum x.next_pc 4 → y.next_pc ≡ u + 4
next_of p q x y u has reached is next =
    let good = q.flowing.good u reached in
    next ∙ ap (λ n. word_sum n 4) is ∙ plus_four u (low p.code x.memory u good.instr has good.stands)

-- a unit of its own: the instruction acts, and the next unit begins
pub plain_goes : (p : Program) (q : Passed p) (f u : ℕ) (us : List ℕ) (below : List (List ℕ)) (es : List Edge) (x : Mips) (word : ℕ) (i : Instr) (rs : List Ran)
    → Walked p f u us below es → AtFirst p q f u us below es x rs → AreRegisters x.registers → HasCode p.code x.memory
    → HasGone p AtStart u es rs
    → instr_at p.code u ≡ Some i → is_control_instr i ≡ false → WentBy x word i
    → Follows p q (step_of x).state (ran_at x ∷ rs)
plain_goes p q f u us below es x word i rs walked at are has ran stands plain w =
    let e : Edge = edge_of u (u + 4) Next in
    let y : Mips = (step_of x).state in
    let adv = plain_advances x word i w plain in
    let stop : kind_of i ≢ kind.Stop = λ is. stop_traps i x is w.no_trap in
    let leads = q.flowing.leads u i e walked.reached stands refl (plain_leads i u plain stop) in
    let reached = q.flowing.also e walked.reached leads in
    let fit = q.kept.plain u i walked.reached stands plain leads y.registers (subst (λ a. Fits (after_instr i a (p.before u)) y.registers) at.pc (step_fits x word i (p.before u) w at.fit)) in
    let counts : Counts p q (u + 4) (u ∷ us) y.registers = λ r k to.
    count_edge p r (q.counted r k) (q.nested r k) e us y.registers walked.reached leads refl to (fit.fit.holds r.counter)
    (λ within. count_ends p r (q.counted r k) u us x word i (fact_of (p.before u).facts r.counter) w are (plain_quiet p.code r.counter u i (q.counted r k).some stands plain)
    ((q.counted r k).first u i walked.reached within stands) (at.fit.fit.holds r.counter) (at.counts r k within)) in
    let there : x.next_pc ≡ u + 4 = at.next_pc in
    record {
      edges = e ∷ es;
      function = f;
      unit = u + 4;
      units = u ∷ us;
      below = below;
      point = First;
      registers = registers_stay_words x are;
      has_code = has_code_stays p.code x has;
      walked = walked_inner p q f e us below es y.registers walked leads (inl refl) counts;
      stands = record {
        pc = adv.pc ∙ there;
        next_pc = next_of p q x y (u + 4) has reached there adv.next_pc;
        returns_are = adv.returns_are ∙ at.returns_are;
        fit = fit;
        counts = counts;
        under = below_moves p q f x.registers y.registers below (moves_of p f u u i x word q.masked walked.function walked.member (is_first_word p.code u) stands w) at.under;
        entered = no_branch p.code e i (ran_at x ∷ rs) stands (λ is. let clash : true ≡ false = sym (ap is_control is) ∙ plain in cc);
      };
      ran = gone_plain p u e es x rs ran (q.flowing.long u i walked.reached stands ∙ plain) at.pc at.entered;
    }

-- the slot of a unit: its instruction, as it goes
record SlotWent (p : Program) (u : ℕ) (x : Mips) (s : Instr) : Type 0 where
  stands : instr_at p.code (u + 4) ≡ Some s
  plain : is_control_instr s ≡ false
  word : ℕ
  went : WentBy x word s

-- the counts behind the slot
slot_counts : (p : Program) (q : Passed p) (f u : ℕ) (us : List ℕ) (below : List (List ℕ)) (i : Instr) (coming : Coming) (x : Mips) (s : Instr) (rs : List Ran)
    → Reached p.code p.entry u → AreRegisters x.registers → AtSlot p q f u us below i coming x rs → SlotWent p u x s
    → (r : Region) (k : Contains p.graph.regions r) → holds r u ≡ true
    → CountDone p r (q.counted r k) u us (step_of x).state.registers
slot_counts p q f u us below i coming x s rs reached are at slot r k within =
    count_ends p r (q.counted r k) u us x slot.word s (fact_of (after_instr i u (p.before u)).facts r.counter) slot.went are (slot_quiet p.code r.counter u i s (q.counted r k).some at.stands at.control slot.stands)
    ((q.counted r k).slot u i s reached within at.stands at.control slot.stands) (at.fit.fit.holds r.counter) (at.counts r k within)

slot_moves : (p : Program) (q : Passed p) (f u : ℕ) (us : List ℕ) (below : List (List ℕ)) (i : Instr) (coming : Coming) (x : Mips) (s : Instr) (rs : List Ran)
    → IsFunction p.code p.entry f → IsUnitOf p.code f u → AtSlot p q f u us below i coming x rs → SlotWent p u x s
    → Below p q f (step_of x).state.registers below
slot_moves p q f u us below i coming x s rs function member at slot =
    below_moves p q f x.registers (step_of x).state.registers below (moves_of p f u (u + 4) s x slot.word q.masked function member (is_slot_word p.code u i at.stands at.control) slot.stands slot.went) at.under

slot_fits : (p : Program) (q : Passed p) (u : ℕ) (x : Mips) (s : Instr) (a : Along) → AreRegisters x.registers
    → x.pc ≡ u + 4 → SlotWent p u x s → Fits a x.registers
    → Fits (after_instr s (u + 4) a) (step_of x).state.registers
slot_fits p q u x s a are pc slot fit = subst (λ n. Fits (after_instr s n a) (step_of x).state.registers) pc (step_fits x slot.word s a slot.went fit)

-- behind the slot of a branch or jump
slot_inside : (p : Program) (q : Passed p) (f : ℕ) (e : Edge) (us : List ℕ) (below : List (List ℕ)) (es : List Edge) (x : Mips) (i s : Instr) (rs : List Ran)
    → Walked p f e.from us below es → AtSlot p q f e.from us below i (Inside e) x rs → AreRegisters x.registers
    → HasCode p.code x.memory
    → HasGone p BeforeSlot e.from es rs → SlotWent p e.from x s → Follows p q (step_of x).state (ran_at x ∷ rs)
slot_inside p q f e us below es x i s rs walked at are has ran slot =
    let go = at.goes in
    let y : Mips = (step_of x).state in
    let adv = plain_advances x slot.word s slot.went slot.plain in
    let reached = q.flowing.also e walked.reached go.leads in
    let fit = q.kept.turn e i s go.facts walked.reached go.leads go.kind at.stands at.control slot.stands go.refined y.registers (slot_fits p q e.from x s go.facts are at.pc slot go.fit) in
    let counts : Counts p q e.to (e.from ∷ us) y.registers = λ r k to.
    count_edge p r (q.counted r k) (q.nested r k) e us y.registers walked.reached go.leads (inner_of e.kind go.kind) to (fit.fit.holds r.counter) (slot_counts p q f e.from us below i (Inside e) x s rs walked.reached are at slot r k) in
    record {
      edges = e ∷ es;
      function = f;
      unit = e.to;
      units = e.from ∷ us;
      below = below;
      point = First;
      registers = registers_stay_words x are;
      has_code = has_code_stays p.code x has;
      walked = walked_inner p q f e us below es y.registers walked go.leads go.kind counts;
      stands = record {
        pc = adv.pc ∙ go.next_pc;
        next_pc = next_of p q x y e.to has reached go.next_pc adv.next_pc;
        returns_are = adv.returns_are ∙ go.returns_are;
        fit = fit;
        counts = counts;
        under = slot_moves p q f e.from us below i (Inside e) x s rs walked.function walked.member at slot;
        entered = go.went (ran_at x);
      };
      ran = gone_slot p e.from e es x rs ran at.pc;
    }

-- behind the slot of a call
slot_calls : (p : Program) (q : Passed p) (f u g : ℕ) (us : List ℕ) (below : List (List ℕ)) (es : List Edge) (x : Mips) (i s : Instr) (rs : List Ran)
    → Walked p f u us below es → AtSlot p q f u us below i (Calling g) x rs → AreRegisters x.registers
    → HasCode p.code x.memory
    → HasGone p BeforeSlot u es rs → SlotWent p u x s → Follows p q (step_of x).state (ran_at x ∷ rs)
unfolding Below points
slot_calls p q f u g us below es x i s rs walked at are has ran slot =
    let go = at.goes in
    let y : Mips = (step_of x).state in
    let e : Edge = edge_of u g Call in
    let adv = plain_advances x slot.word s slot.went slot.plain in
    let reached = q.flowing.also e walked.reached go.calls in
    let function : IsFunction p.code p.entry g = inr (record { caller = u; reached = walked.reached; calls = go.calls }) in
    let into = q.flowing.into u g walked.reached go.calls in
    let kept = slot_fits p q u x s (after_instr i u (p.before u)) are at.pc slot at.fit in
    let fit = q.kept.call u g i s walked.reached go.calls at.stands slot.stands y.registers kept in
    let counts : Counts p q g [] y.registers = λ r k to.
    let is = (q.nested r k).starts g function to in
    count_enters p r (q.counted r k) g [] y.registers to is refl (subst (λ v. Holds (fact_of (p.before v).facts r.counter) (value y.registers r.counter)) is (fit.fit.holds r.counter)) in
    record {
      edges = e ∷ es;
      function = g;
      unit = g;
      units = [];
      below = (u ∷ us) ∷ below;
      point = First;
      registers = registers_stay_words x are;
      has_code = has_code_stays p.code x has;
      walked = walked_along p f g e us below [] ((u ∷ us) ∷ below) es Call walked function into reached (q.flowing.edges e (record { reached = walked.reached; joins = inl go.calls })) refl refl refl
          (legal_top p q g [] ((u ∷ us) ∷ below) y.registers counts);
      stands = record {
        pc = adv.pc ∙ go.next_pc;
        next_pc = next_of p q x y g has reached go.next_pc adv.next_pc;
        returns_are = adv.returns_are ∙ go.returns_are;
        fit = fit;
        counts = counts;
        under = (
          f,
          y.registers,
          record {
            function = walked.function;
            member = walked.member;
            reached = walked.reached;
            calls = go.calls;
            call = i;
            call_stands = at.stands;
            is_call = go.is;
            slot = s;
            slot_stands = slot.stands;
            kept = λ r below. inr refl;
            fit = kept;
            counts = slot_counts p q f u us below i (Calling g) x s rs walked.reached are at slot;
          },
          slot_moves p q f u us below i (Calling g) x s rs walked.function walked.member at slot,
        );
        entered = no_branch p.code e i (ran_at x ∷ rs) at.stands (λ is. let clash : kind.Branch ≡ kind.Call = sym is ∙ go.is in cc);
      };
      ran = gone_slot p u e es x rs ran at.pc;
    }

-- behind the slot of a return
record Returned (p : Program) (q : Passed p) (x : Mips) (c : ℕ) (rest : List (List ℕ)) : Type 0 where
  next_pc : x.next_pc ≡ c + 8
  returns_are : x.returns ≡ points rest

pops : (p : Program) (q : Passed p) (x : Mips) (c : ℕ) (cs : List ℕ) (rest : List (List ℕ))
    → x.next_pc ∷ x.returns ≡ points ((c ∷ cs) ∷ rest) → Returned p q x c rest
unfolding points
pops p q x c cs rest back = record { next_pc = cc; returns_are = cc }

pops_last : (x : Mips) → x.next_pc ∷ x.returns ≡ points [] → (x.next_pc ≡ exit_address) × (x.returns ≡ [])
unfolding points
pops_last x back = (cc, cc)

keeps : (p : Program) (g : ℕ) (saved left : List ℕ) (r : ℕ) → p.mask g r ≡ false
    → (p.mask g r ≡ true) ⊎ (slice_index left r ≡ slice_index saved r) → slice_index left r ≡ slice_index saved r
keeps p g saved left r clear (inl masked) = let clash : true ≡ false = sym masked ∙ clear in cc
keeps p g saved left r clear (inr same) = same

slot_returns : (p : Program) (q : Passed p) (f u : ℕ) (us : List ℕ) (below : List (List ℕ)) (es : List Edge) (x : Mips) (i s : Instr) (rs : List Ran)
    → Walked p f u us below es → AtSlot p q f u us below i Returning x rs → AreRegisters x.registers
    → HasCode p.code x.memory
    → HasGone p BeforeSlot u es rs → SlotWent p u x s → Follows p q (step_of x).state (ran_at x ∷ rs)
unfolding Below
slot_returns p q f u us [] es x i s rs walked at are has ran slot =
    let adv = plain_advances x slot.word s slot.went slot.plain in
    let last = pops_last x at.goes.back in
    record {
      edges = es;
      function = f;
      unit = u;
      units = us;
      below = [];
      point = Done;
      registers = registers_stay_words x are;
      has_code = has_code_stays p.code x has;
      walked = walked;
      stands = record { pc = adv.pc ∙ last.0; returns_are = adv.returns_are ∙ last.1 };
      ran = gone_last p u es x rs ran at.pc;
    }
slot_returns p q f u us ([] ∷ rest) es x i s rs walked at are has ran slot = absurd at.under
slot_returns p q f u us ((c ∷ cs) ∷ rest) es x i s rs walked at are has ran slot =
    let y : Mips = (step_of x).state in
    let adv = plain_advances x slot.word s slot.went slot.plain in
    let back = pops p q x c cs rest at.goes.back in
    let under = slot_moves p q f u us ((c ∷ cs) ∷ rest) i Returning x s rs walked.function walked.member at slot in
    let g = under.0 in
    let saved = under.1 in
    let frame = under.2 in
    let along : Edge = edge_of c (c + 8) Over in
    let e : Edge = edge_of u (c + 8) Return in
    let good = q.flowing.good c frame.reached in
    let same : good.instr ≡ frame.call = same_instr p.code c good.instr frame.call good.stands frame.call_stands in
    let control : Control frame.call = subst (λ j. Control j) same (control_of good.instr good.direct (ap is_control_instr same ∙ ap is_control frame.is_call)) in
    let leads = q.flowing.leads c frame.call along frame.reached frame.call_stands refl (over_leads frame.call c control frame.is_call) in
    let to = q.flowing.on g along frame.member leads refl in
    let reached = q.flowing.also along frame.reached leads in
    let left : AreLeft p f saved y.registers = record { are = registers_stay_words x are; kept = frame.kept } in
    let fit = q.kept.over c f frame.call frame.slot frame.reached frame.calls frame.call_stands frame.slot_stands saved y.registers frame.fit left in
    let counts : Counts p q (c + 8) (c ∷ cs) y.registers = λ r k into.
    count_edge p r (q.counted r k) (q.nested r k) along cs y.registers frame.reached leads refl into (fit.fit.holds r.counter)
    (λ within. count_across p r (q.counted r k) c cs saved y.registers (keeps p f saved y.registers r.counter ((q.counted r k).callee c f frame.reached within frame.calls) (frame.kept r.counter (q.counted r k).below)) (frame.counts r k within)) in
    let edge = q.flowing.edges e (record {
      reached = walked.reached;
      joins = inr (refl, record { function = f; caller = c; reached = frame.reached; calls = frame.calls; member = walked.member; instr = i; at = at.stands; is_return = at.goes.is; point = refl });
    }) in
    record {
      edges = e ∷ es;
      function = g;
      unit = c + 8;
      units = c ∷ cs;
      below = rest;
      point = First;
      registers = registers_stay_words x are;
      has_code = has_code_stays p.code x has;
      walked = walked_along p f g e us ((c ∷ cs) ∷ rest) (c ∷ cs) rest es Return walked frame.function to reached edge refl (refl, refl) refl (legal_top p q (c + 8) (c ∷ cs) rest y.registers counts);
      stands = record {
        pc = adv.pc ∙ back.next_pc;
        next_pc = next_of p q x y (c + 8) has reached back.next_pc adv.next_pc;
        returns_are = adv.returns_are ∙ back.returns_are;
        fit = fit;
        counts = counts;
        under = below_moves p q g saved y.registers rest (λ r low. elim (frame.kept r low) [ inl masked ↦ inl (q.masked.callee g c f r frame.function frame.member frame.calls low masked) | inr same ↦ inr same ]) under.3;
        entered = no_branch p.code e i (ran_at x ∷ rs) at.stands (λ is. let clash : kind.Branch ≡ kind.Return = sym is ∙ at.goes.is in cc);
      };
      ran = gone_slot p u e es x rs ran at.pc;
    }

-- a slot's instruction, whatever comes
pub slot_goes : (p : Program) (q : Passed p) (f u : ℕ) (us : List ℕ) (below : List (List ℕ)) (es : List Edge) (x : Mips) (word : ℕ) (i s : Instr) (coming : Coming) (rs : List Ran)
    → Walked p f u us below es → AtSlot p q f u us below i coming x rs → AreRegisters x.registers
    → HasCode p.code x.memory
    → HasGone p BeforeSlot u es rs → instr_at p.code (u + 4) ≡ Some s → is_control_instr s ≡ false → WentBy x word s
    → Follows p q (step_of x).state (ran_at x ∷ rs)
slot_goes p q f u us below es x word i s (Inside e) rs walked at are has ran stands plain w =
    let back = sym at.goes.from in
    slot_inside p q f e us below es x i s rs (subst (λ v. Walked p f v us below es) back walked) (subst (λ v. AtSlot p q f v us below i (Inside e) x rs) back at) are has
    (subst (λ v. HasGone p BeforeSlot v es rs) back ran) (record { stands = subst (λ v. instr_at p.code (v + 4) ≡ Some s) back stands; plain = plain; word = word; went = w })
slot_goes p q f u us below es x word i s (Calling g) rs walked at are has ran stands plain w =
    slot_calls p q f u g us below es x i s rs walked at are has ran (record { stands = stands; plain = plain; word = word; went = w })
slot_goes p q f u us below es x word i s Returning rs walked at are has ran stands plain w =
    slot_returns p q f u us below es x i s rs walked at are has ran (record { stands = stands; plain = plain; word = word; went = w })
