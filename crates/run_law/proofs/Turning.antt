-- The control instruction of a unit: the state goes into its slot; and every step of a run.
use Rattle.std.proofs.Common.{◌≡◌, ◌≢◌, ◌∙◌, refl, sym, ap, subst, ℕ, zero, suc, ◌+◌, ◌<◌, Bool, true, false, List, [], ◌∷◌, ◌++◌, length, arith, ◌⊎◌, inl, inr}
use Rattle.std.specs.Prelude.{if◌then◌else◌, ◌==◌, ◌&&◌, Some, None}
use Rattle.std.specs.List.{Contains}
use Rattle.visa_io.specs.declared.records.Region.{Region}
use Rattle.mips_isa.specs.Kinds.{kind_of, is_control}
use Rattle.mips_isa.specs.Names.{writes_of}
use Rattle.mips_isa.specs.Words.{word_sum}
use Rattle.mips_isa.specs.declared.instr.Instr.{Instr}
use Rattle.mips_isa.specs.declared.instr.Kind.{Kind}
use Rattle.mips_isa.specs.declared.instr.Kind.TheVariants as kind
use Rattle.mips_ref.specs.Facts.{WentBy}
use Rattle.mips_ref.specs.Job.{after}
use Rattle.mips_ref.specs.Memory.{code_word_at}
use Rattle.mips_ref.specs.Mips.{Mips, exit_address}
use Rattle.mips_ref.specs.Step.{at_exit, fetched, retired_of, step_of}
use Rattle.mips_ref.specs.declared.records.Step.TheVariants.{Exit, Went}
use Rattle.flow_graph.specs.Code.{instr_at, is_control_instr}
use Rattle.flow_graph.specs.Edges.{edge_of, edges_by}
use Rattle.flow_graph.specs.Reached.{CallsAt, Calls}
use Rattle.flow_graph.specs.declared.parts.Edge.{Edge}
use Rattle.flow_graph.specs.declared.parts.EdgeKind.TheVariants.{Next, Taken, Call}
use Rattle.loop_regions.specs.Places.{Place, places}
use Rattle.loop_regions.specs.Walks.{holds}
use Rattle.run_law.specs.Advance.{Advances, AreRegisters, MayAnswer}
use Rattle.run_law.specs.Fits.{Fits, refined_if}
use Rattle.range_facts.specs.Ranges.{Holds}
use Rattle.range_facts.specs.Transfer.{fact_of}
use Rattle.range_facts.specs.Along.{after_instr}
use Rattle.run_law.specs.Instructions.{instruction_at, is_direct, target_of}
use Rattle.run_law.specs.Program.{Passed, Program, is_taken}
use Rattle.mips_ref.specs.Ran.{ran_at, ran_by}
use Rattle.mips_ref.specs.declared.records.Ran.{Ran}
use Rattle.run_law.specs.Ran.{WentAlong}
use Rattle.run_law.specs.Runs.{First as AtStart, HasCode, InSlot as BeforeSlot, IsAt, Opens, Runs, points}
use Rattle.run_law.proofs.Acting.{Control, branch_advances, call_advances, control_of, jump_advances, register_kept, registers_stay, registers_stay_words, returns_back}
use Rattle.run_law.proofs.Answering.{answers, plain_direct}
use Rattle.run_law.proofs.Coded.{gone_control, has_code_stays, here, is_first_word, low, plus_eight, plus_four, ran_taken, same_instr, twice_four, went_here, addiu_plain}
use Rattle.run_law.proofs.Counting.{count_enters, count_kept, value}
use Rattle.run_law.proofs.Fitting.{step_fits, turn_fits}
use Rattle.run_law.proofs.Leading.{branch_edge, branch_leads, call_leads, jump_leads, no_indirect}
use Rattle.run_law.proofs.Running.{plain_goes, slot_goes}
use Rattle.run_law.proofs.Standing.{AtFirst, AtSlot, Below, Calling, Coming, Counts, Done, First, Follows, GoesOn, HasGone, InSlot, Inside, Point, Returning, Stands, Walked, below_moves, chain_of, depth_of, moves_of, spot_of}

-- the control instruction of a unit, as it goes
record ControlWent (p : Program) (u : ℕ) (x : Mips) (i : Instr) : Type 0 where
  stands : instr_at p.code u ≡ Some i
  control : Control i
  is_control_one : is_control_instr i ≡ true
  word : ℕ
  went : WentBy x word i

-- a branch, jump or return has acted: the state stands in its slot, with the same registers
turned : (p : Program) (q : Passed p) (f u : ℕ) (us : List ℕ) (below : List (List ℕ)) (es : List Edge) (x : Mips) (i : Instr) (coming : Coming) (rs : List Ran)
    → Walked p f u us below es → AtFirst p q f u us below es x rs → AreRegisters x.registers → HasCode p.code x.memory
    → HasGone p AtStart u es rs
    → (c : ControlWent p u x i) → (step_of x).state.pc ≡ x.next_pc → (step_of x).state.registers ≡ x.registers
    → GoesOn p u i coming below (step_of x).state (ran_at x ∷ rs) → Follows p q (step_of x).state (ran_at x ∷ rs)
turned p q f u us below es x i coming rs walked at are has ran c pc same go =
    let y : Mips = (step_of x).state in
    record {
      edges = es;
      function = f;
      unit = u;
      units = us;
      below = below;
      point = InSlot i coming;
      registers = registers_stay_words x are;
      has_code = has_code_stays p.code x has;
      walked = walked;
      stands = record {
        pc = pc ∙ at.next_pc;
        stands = c.stands;
        control = c.is_control_one;
        fit = subst (λ n. Fits (after_instr i n (p.before u)) y.registers) at.pc (step_fits x c.word i (p.before u) c.went at.fit);
        counts = subst (λ registers. Counts p q u us registers) (sym same) at.counts;
        under = subst (λ registers. Below p q f registers below) (sym same) at.under;
        goes = go;
      };
      ran = gone_control p u es x rs ran (q.flowing.long u i walked.reached c.stands ∙ c.is_control_one) at.pc at.entered;
    }

-- along an edge that isn't a call or return
along : (p : Program) (q : Passed p) (f u : ℕ) (us : List ℕ) (below : List (List ℕ)) (es : List Edge) (x : Mips) (i : Instr) (e : Edge) (rs : List Ran)
    → Walked p f u us below es → AtFirst p q f u us below es x rs → AreRegisters x.registers → HasCode p.code x.memory
    → HasGone p AtStart u es rs
    → ControlWent p u x i → kind_of i ≢ kind.Call → is_direct i ≡ true → e.from ≡ u → Contains (edges_by i u) e
    → (e.kind ≡ Next) ⊎ (e.kind ≡ Taken) → Advances x (step_of x).state e.to x.returns
    → (kind_of i ≡ kind.Branch → (retired_of i x).taken ≡ is_taken e.kind)
    → Follows p q (step_of x).state (ran_at x ∷ rs)
along p q f u us below es x i e rs walked at are has ran c other direct from edge kind adv taken =
    let y : Mips = (step_of x).state in
    let leads = q.flowing.leads u i e walked.reached c.stands from edge in
    let stands = ap (instr_at p.code) from ∙ c.stands in
    let same = registers_stay x c.word i c.went direct c.is_control_one other in
    let turns = turn_fits x i (is_taken e.kind) (p.before e.from) taken (subst (λ v. Fits (p.before v) x.registers) (sym from) at.fit) in
    let there = ap (instruction_at x.memory) at.pc ∙ here p.code x.memory u i has c.stands in
    let went : (s : Ran) → WentAlong p.code e (s ∷ ran_at x ∷ rs) = λ s is j stands_j branch.
    let alike = same_instr p.code e.from j i stands_j stands in
    ran_taken x i there ∙ taken (ap kind_of (sym alike) ∙ branch) in
    turned p q f u us below es x i (Inside e) rs walked at are has ran c adv.pc same (record {
      from = from;
      leads = leads;
      kind = kind;
      next_pc = adv.next_pc;
      returns_are = adv.returns_are ∙ at.returns_are;
      facts = turns.0;
      refined = ap (λ o. refined_if o (is_taken e.kind) (p.before e.from)) stands ∙ turns.1;
      fit = subst (λ registers. Fits turns.0 registers) (sym same) turns.2;
      went = went;
    })

branch_goes : (p : Program) (q : Passed p) (f u : ℕ) (us : List ℕ) (below : List (List ℕ)) (es : List Edge) (x : Mips) (i : Instr) (rs : List Ran)
    → Walked p f u us below es → AtFirst p q f u us below es x rs → AreRegisters x.registers → HasCode p.code x.memory
    → HasGone p AtStart u es rs
    → ControlWent p u x i → is_direct i ≡ true → kind_of i ≡ kind.Branch
    → Follows p q (step_of x).state (ran_at x ∷ rs)
branch_goes p q f u us below es x i rs walked at are has ran c direct is =
    let adv = branch_advances x c.word i c.went direct is in
    let leads = branch_leads i x u c.control are.zero is in
    by_taken (retired_of i x).taken refl leads adv
  where
    other : kind_of i ≢ kind.Call
    other e = let clash : kind.Branch ≡ kind.Call = sym is ∙ e in cc

    by_taken : (b : Bool) → (retired_of i x).taken ≡ b
        → Contains (edges_by i u) (branch_edge u (target_of i u) (retired_of i x).taken)
        → Advances x (step_of x).state (if (retired_of i x).taken then target_of i x.pc else word_sum x.next_pc 4) x.returns
        → Follows p q (step_of x).state (ran_at x ∷ rs)
    by_taken true taken leads adv =
        let edge = subst (λ b. Contains (edges_by i u) (branch_edge u (target_of i u) b)) taken leads in
        let to : (if (retired_of i x).taken then target_of i x.pc else word_sum x.next_pc 4) ≡ target_of i u = ap (λ (b : Bool). let n : ℕ = (if b then target_of i x.pc else word_sum x.next_pc 4) in n) taken ∙ ap (target_of i) at.pc in
        along p q f u us below es x i (edge_of u (target_of i u) Taken) rs walked at are has ran c other direct refl edge (inr refl) (record { pc = adv.pc; next_pc = adv.next_pc ∙ to; returns_are = adv.returns_are }) (λ e. taken)
    by_taken false taken leads adv =
        let edge = subst (λ b. Contains (edges_by i u) (branch_edge u (target_of i u) b)) taken leads in
        let good = q.flowing.good u walked.reached in
        let slot = good.slot (ap is_control_instr (same_instr p.code u good.instr i good.stands c.stands) ∙ c.is_control_one) in
        let after : word_sum (u + 4) 4 ≡ u + 8 = plus_four (u + 4) (low p.code x.memory (u + 4) slot.0 has slot.1) ∙ twice_four u in
        let to : (if (retired_of i x).taken then target_of i x.pc else word_sum x.next_pc 4) ≡ u + 8 = ap (λ (b : Bool). let n : ℕ = (if b then target_of i x.pc else word_sum x.next_pc 4) in n) taken ∙ ap (λ n. word_sum n 4) at.next_pc ∙ after in
        along p q f u us below es x i (edge_of u (u + 8) Next) rs walked at are has ran c other direct refl edge (inl refl) (record { pc = adv.pc; next_pc = adv.next_pc ∙ to; returns_are = adv.returns_are }) (λ e. taken)

jump_goes : (p : Program) (q : Passed p) (f u : ℕ) (us : List ℕ) (below : List (List ℕ)) (es : List Edge) (x : Mips) (i : Instr) (rs : List Ran)
    → Walked p f u us below es → AtFirst p q f u us below es x rs → AreRegisters x.registers → HasCode p.code x.memory
    → HasGone p AtStart u es rs
    → ControlWent p u x i → is_direct i ≡ true → kind_of i ≡ kind.Jump → Follows p q (step_of x).state (ran_at x ∷ rs)
jump_goes p q f u us below es x i rs walked at are has ran c direct is =
    let adv = jump_advances x c.word i c.went direct is in
    along p q f u us below es x i (edge_of u (target_of i u) Taken) rs walked at are has ran c (λ e. let clash : kind.Jump ≡ kind.Call = sym is ∙ e in cc) direct refl (jump_leads i u c.control is) (inr refl)
    (record { pc = adv.pc; next_pc = adv.next_pc ∙ ap (target_of i) at.pc; returns_are = adv.returns_are }) (λ e. let clash : kind.Jump ≡ kind.Branch = sym is ∙ e in cc)

return_goes : (p : Program) (q : Passed p) (f u : ℕ) (us : List ℕ) (below : List (List ℕ)) (es : List Edge) (x : Mips) (i : Instr) (rs : List Ran)
    → Walked p f u us below es → AtFirst p q f u us below es x rs → AreRegisters x.registers → HasCode p.code x.memory
    → HasGone p AtStart u es rs
    → ControlWent p u x i → is_direct i ≡ true → kind_of i ≡ kind.Return
    → Follows p q (step_of x).state (ran_at x ∷ rs)
return_goes p q f u us below es x i rs walked at are has ran c direct is =
    let back = returns_back x c.word i c.went direct is in
    let same = registers_stay x c.word i c.went direct c.is_control_one (λ e. let clash : kind.Return ≡ kind.Call = sym is ∙ e in cc) in
    turned p q f u us below es x i Returning rs walked at are has ran c back.pc same (record { is = is; back = sym back.popped ∙ at.returns_are })

call_goes : (p : Program) (q : Passed p) (f u : ℕ) (us : List ℕ) (below : List (List ℕ)) (es : List Edge) (x : Mips) (i : Instr) (rs : List Ran)
    → Walked p f u us below es → AtFirst p q f u us below es x rs → AreRegisters x.registers → HasCode p.code x.memory
    → HasGone p AtStart u es rs
    → ControlWent p u x i → is_direct i ≡ true → kind_of i ≡ kind.Call → Follows p q (step_of x).state (ran_at x ∷ rs)
call_goes p q f u us below es x i rs walked at are has ran c direct is =
    let y : Mips = (step_of x).state in
    let g : ℕ = target_of i u in
    let adv = call_advances x c.word i c.went are.zero direct is in
    let calls : CallsAt p.code u g = q.flowing.leads u i (edge_of u g Call) walked.reached c.stands refl (call_leads i u c.control is) in
    let pushed : word_sum x.pc 8 ≡ u + 8 = ap (λ n. word_sum n 8) at.pc ∙ plus_eight u (low p.code x.memory u i has c.stands) in
    record {
      edges = es;
      function = f;
      unit = u;
      units = us;
      below = below;
      point = InSlot i (Calling g);
      registers = registers_stay_words x are;
      has_code = has_code_stays p.code x has;
      walked = walked;
      stands = record {
        pc = adv.pc ∙ at.next_pc;
        stands = c.stands;
        control = c.is_control_one;
        fit = subst (λ n. Fits (after_instr i n (p.before u)) y.registers) at.pc (step_fits x c.word i (p.before u) c.went at.fit);
        counts = λ r k within. count_kept p r (q.counted r k) u us x.registers y.registers (register_kept x c.word i r.counter c.went (q.counted r k).below (other r k within)) (at.counts r k within);
        under = below_moves p q f x.registers y.registers below (moves_of p f u u i x c.word q.masked walked.function walked.member (is_first_word p.code u) c.stands c.went) at.under;
        goes = record {
          is = is;
          calls = calls;
          next_pc = adv.next_pc ∙ ap (target_of i) at.pc;
          returns_are = adv.returns_are ∙ ap (λ n. n ∷ x.returns) pushed ∙ ap (λ r. (u + 8) ∷ r) at.returns_are;
        };
      };
      ran = gone_control p u es x rs ran (q.flowing.long u i walked.reached c.stands ∙ c.is_control_one) at.pc at.entered;
    }
  where
    -- a call is no step, so it doesn't write the counter of a region that it stands in
    other : (r : Region) (k : Contains p.graph.regions r) → holds r u ≡ true → writes_of i ≢ Some r.counter
    other r k within writes =
        let step = (q.counted r k).first u i walked.reached within c.stands writes in
        let clash : true ≡ false = sym c.is_control_one ∙ ap is_control_instr step.is ∙ addiu_plain r.counter step.imm in cc

-- the instruction of a unit, by its kind
by_kind : (p : Program) (q : Passed p) (f u : ℕ) (us : List ℕ) (below : List (List ℕ)) (es : List Edge) (x : Mips) (word : ℕ) (i : Instr) (rs : List Ran) (k : Kind)
    → kind_of i ≡ k → is_control k ≡ true → Walked p f u us below es → AtFirst p q f u us below es x rs
    → AreRegisters x.registers → HasCode p.code x.memory → HasGone p AtStart u es rs
    → ControlWent p u x i → is_direct i ≡ true → Follows p q (step_of x).state (ran_at x ∷ rs)
by_kind p q f u us below es x word i rs kind.Branch is control walked at are has ran c direct = branch_goes p q f u us below es x i rs walked at are has ran c direct is
by_kind p q f u us below es x word i rs kind.Jump is control walked at are has ran c direct = jump_goes p q f u us below es x i rs walked at are has ran c direct is
by_kind p q f u us below es x word i rs kind.Call is control walked at are has ran c direct = call_goes p q f u us below es x i rs walked at are has ran c direct is
by_kind p q f u us below es x word i rs kind.Return is control walked at are has ran c direct = return_goes p q f u us below es x i rs walked at are has ran c direct is
by_kind p q f u us below es x word i rs kind.Indirect is control walked at are has ran c direct = absurd (no_indirect i c.control is)
by_kind p q f u us below es x word i rs kind.Plain is control walked at are has ran c direct = cc
by_kind p q f u us below es x word i rs kind.Mul is control walked at are has ran c direct = cc
by_kind p q f u us below es x word i rs kind.Div is control walked at are has ran c direct = cc
by_kind p q f u us below es x word i rs kind.Load is control walked at are has ran c direct = cc
by_kind p q f u us below es x word i rs kind.Store is control walked at are has ran c direct = cc
by_kind p q f u us below es x word i rs kind.Stop is control walked at are has ran c direct = cc

-- what a step of a state that follows a walk comes to
record Goes (p : Program) (q : Passed p) (x : Mips) (rs : List Ran) : Type 0 where
  may : MayAnswer (step_of x).answer
  follows : (step_of x).answer ≡ Went → Follows p q (step_of x).state (ran_at x ∷ rs)

first_goes : (p : Program) (q : Passed p) (f u : ℕ) (us : List ℕ) (below : List (List ℕ)) (es : List Edge) (x : Mips) (rs : List Ran)
    → Walked p f u us below es → AtFirst p q f u us below es x rs → AreRegisters x.registers → HasCode p.code x.memory
    → HasGone p AtStart u es rs → Goes p q x rs
first_goes p q f u us below es x rs walked at are has ran =
    let good = q.flowing.good u walked.reached in
    let i : Instr = good.instr in
    let there : instruction_at x.memory x.pc ≡ Some i = ap (instruction_at x.memory) at.pc ∙ here p.code x.memory u i has good.stands in
    record {
      may = answers x i has.laid_out there (λ is. room i good.stands good.direct is) good.direct;
      follows = λ goes. let w = went_here x i there goes in by_control (is_control_instr i) refl w.0 w.1;
    }
  where
    room : (i : Instr) → instr_at p.code u ≡ Some i → is_direct i ≡ true → kind_of i ≡ kind.Call
        → length x.returns < 64
    room i stands direct is =
        let control = control_of i direct (ap is_control is) in
        let g : ℕ = target_of i u in
        let calls : CallsAt p.code u g = q.flowing.leads u i (edge_of u g Call) walked.reached stands refl (call_leads i u control is) in
        let chain = Calls (length below) f u g (chain_of p q f x.registers below at.under) walked.member calls in
        let shallow = q.flowing.shallow (suc (length below)) g chain in
        let depth = depth_of p q f x.registers below at.under in
        let stack : length x.returns ≡ length below + 1 = ap length at.returns_are ∙ depth in
        omega (arith, stack, shallow)

    by_control : (b : Bool) → is_control_instr (q.flowing.good u walked.reached).instr ≡ b → (word : ℕ)
        → WentBy x word (q.flowing.good u walked.reached).instr → Follows p q (step_of x).state (ran_at x ∷ rs)
    by_control false plain word w = plain_goes p q f u us below es x word (q.flowing.good u walked.reached).instr rs walked at are has ran (q.flowing.good u walked.reached).stands plain w
    by_control true control word w =
        let good = q.flowing.good u walked.reached in
        by_kind p q f u us below es x word good.instr rs (kind_of good.instr) refl control walked at are has ran
        (record { stands = good.stands; control = control_of good.instr good.direct control; is_control_one = control; word = word; went = w }) good.direct

slot_steps : (p : Program) (q : Passed p) (f u : ℕ) (us : List ℕ) (below : List (List ℕ)) (es : List Edge) (x : Mips) (i : Instr) (coming : Coming) (rs : List Ran)
    → Walked p f u us below es → AtSlot p q f u us below i coming x rs → AreRegisters x.registers
    → HasCode p.code x.memory → HasGone p BeforeSlot u es rs → Goes p q x rs
slot_steps p q f u us below es x i coming rs walked at are has ran =
    let good = q.flowing.good u walked.reached in
    let slot = good.slot (ap is_control_instr (same_instr p.code u good.instr i good.stands at.stands) ∙ at.control) in
    let s : Instr = slot.0 in
    let there : instruction_at x.memory x.pc ≡ Some s = ap (instruction_at x.memory) at.pc ∙ here p.code x.memory (u + 4) s has slot.1 in
    record {
      may = answers x s has.laid_out there (λ is. let clash : true ≡ false = sym (ap is_control is) ∙ slot.2 in cc) (plain_direct s slot.2);
      follows = λ goes. let w = went_here x s there goes in slot_goes p q f u us below es x w.0 i s coming rs walked at are has ran slot.1 slot.2 w.1;
    }

pub exits_there : (x : Mips) → x.pc ≡ exit_address → x.returns ≡ [] → (step_of x).answer ≡ Exit
unfolding step_of
exits_there x pc none =
    let there : at_exit x ≡ true = ap (λ n. (n == exit_address) && (length x.returns == 0)) pc ∙ ap (λ r. length r == 0) none in
    ap (λ (b : Bool). (if b then record { answer = Exit; state = x } else fetched (code_word_at x.memory x.pc) x).answer) there

by_point : (p : Program) (q : Passed p) (f u : ℕ) (us : List ℕ) (below : List (List ℕ)) (es : List Edge) (x : Mips) (point : Point) (rs : List Ran)
    → Walked p f u us below es → Stands p q f u us below es point x rs → AreRegisters x.registers
    → HasCode p.code x.memory → HasGone p (spot_of point) u es rs → Goes p q x rs
by_point p q f u us below es x First rs walked at are has ran = first_goes p q f u us below es x rs walked at are has ran
by_point p q f u us below es x (InSlot i coming) rs walked at are has ran = slot_steps p q f u us below es x i coming rs walked at are has ran
by_point p q f u us below es x Done rs walked at are has ran =
    let exits = exits_there x at.pc at.returns_are in
    record {
      may = subst (λ a. MayAnswer a) (sym exits) tt;
      follows = λ goes. absurd (let clash : Exit ≡ Went = sym exits ∙ goes in cc);
    }

step_follows : (p : Program) (q : Passed p) (x : Mips) (rs : List Ran) → Follows p q x rs → Goes p q x rs
step_follows p q x rs follows = by_point p q follows.function follows.unit follows.units follows.below follows.edges x follows.point rs follows.walked follows.stands follows.registers follows.has_code follows.ran

-- a job opens at the entry
opening_follows : (p : Program) (q : Passed p) (x : Mips) → Opens p x → Follows p q x []
unfolding points Below
opening_follows p q x opens =
    let entry = q.flowing.entry in
    let counts : Counts p q p.entry [] x.registers = λ r k to.
    let is = (q.nested r k).starts p.entry entry.0 to in
    count_enters p r (q.counted r k) p.entry [] x.registers to is refl (subst (λ v. Holds (fact_of (p.before v).facts r.counter) (value x.registers r.counter)) is (opens.fit.fit.holds r.counter)) in
    record {
      edges = [];
      function = p.entry;
      unit = p.entry;
      units = [];
      below = [];
      point = First;
      registers = opens.registers;
      has_code = opens.has_code;
      walked = record { opens = refl; walk = tt; function = entry.0; member = entry.2; reached = entry.1 };
      stands = record { pc = opens.pc; next_pc = opens.next_pc; returns_are = opens.returns_are; fit = opens.fit; counts = counts; under = refl; entered = tt };
      ran = record { gone = []; places_are = append_none (places p.graph None p.entry []); goes = tt };
    }
  where
    append_none : (xs : List Place) → xs ≡ xs ++ []
    append_none [] = refl
    append_none (x ∷ xs) = ap (λ q. x ∷ q) (append_none xs)

follows_after : (p : Program) (q : Passed p) (x : Mips) → Opens p x → (n : ℕ)
    → ((k : ℕ) → k < n → (step_of (after k x)).answer ≡ Went) → Follows p q (after n x) (ran_by n x)
unfolding after ran_by
follows_after p q x opens zero goes = opening_follows p q x opens
follows_after p q x opens (suc n) goes = (step_follows p q (after n x) (ran_by n x) (follows_after p q x opens n (λ k below. goes k (omega arith)))).follows (goes n (omega arith))

stands_at : (p : Program) (q : Passed p) (f u : ℕ) (us : List ℕ) (below : List (List ℕ)) (es : List Edge) (point : Point) (x : Mips) (rs : List Ran)
    → Stands p q f u us below es point x rs → IsAt p u below rs es (spot_of point) x
stands_at p q f u us below es First x rs at = (at.pc, at.next_pc, at.returns_are, at.fit, at.entered)
stands_at p q f u us below es (InSlot i coming) x rs at = (at.pc, (i, at.stands, at.control, at.fit))
stands_at p q f u us below es Done x rs at = (at.pc, at.returns_are)

-- the run law
pub runs : (p : Program) (x : Mips) (n : ℕ) → Passed p → Opens p x
    → ((k : ℕ) → k < n → (step_of (after k x)).answer ≡ Went)
    → Runs p (after n x) (ran_by n x) × MayAnswer (step_of (after n x)).answer
runs p x n q opens went =
    let f = follows_after p q x opens n went in
    let w = f.walked in (
      record {
        edges = f.edges;
        unit = f.unit;
        units = f.units;
        below = f.below;
        opens = w.opens;
        walk = w.walk;
        function = f.function;
        is_function = w.function;
        member = w.member;
        reached = w.reached;
        spot = spot_of f.point;
        at = stands_at p q f.function f.unit f.units f.below f.edges f.point (after n x) (ran_by n x) f.stands;
        gone = f.ran.gone;
        places_are = f.ran.places_are;
        goes = f.ran.goes;
      },
      (step_follows p q (after n x) (ran_by n x) f).may,
    )
