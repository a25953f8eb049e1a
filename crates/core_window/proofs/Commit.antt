-- A commit keeps a window beside the state, and a step of the state keeps what is known below it.
use Rattle.std.proofs.Common.{◌≡◌, ℕ, Bool, true, false, cond, List, [], ◌∷◌, length, Option, Some, None, refl, sym, ap, ◌∙◌, subst, arith}
use Rattle.std.proofs.lemmas.Grind.{common_steps}
use Rattle.std.specs.Prelude.{IfSome, ◌&&◌}
use Rattle.mips_isa.proofs.Relation.{decode_of_fits}
use Rattle.mips_isa.specs.Decoding.{decode_of}
use Rattle.mips_isa.specs.Names.{writes_of}
use Rattle.mips_isa.specs.declared.instr.Instr.{Instr}
use Rattle.mips_ref.proofs.CodeKept.{code_word-kept}
use Rattle.mips_ref.proofs.Frame.{step_keeps}
use Rattle.mips_ref.proofs.Steps.{went_by, went-pc, went-next_pc, step-went}
use Rattle.mips_ref.specs.Facts.{WentBy}
use Rattle.mips_ref.specs.Memory.{LaidOut, code_word_at}
use Rattle.mips_ref.specs.Mips.{Mips}
use Rattle.mips_ref.specs.Step.{Stepped, at_exit, changed, fetched, retired_of, step_of, trap_of}
use Rattle.mips_ref.specs.declared.records.Retired.{Retired}
use Rattle.mips_ref.specs.declared.records.Step.{Step}
use Rattle.mips_ref.specs.declared.records.Step.TheVariants.{Went, Exit, Trap}
use Rattle.core_window.proofs.Fit.{all-below, all-code, parts-are, trap-is}
use Rattle.core_window.proofs.Past.{past-all, past-below, past-learns, registers-room}
use Rattle.mips_ref.proofs.StepGives.{retired-gives}
use Rattle.mips_ref.specs.Facts.{Gives}
use Rattle.core_window.proofs.Views.{Below, and-right, below-again, below-same, outcome-below, outcome-is}
use Rattle.core_window.specs.Beside.{AllFit, EndingFits, Stands, StatusFits}
use Rattle.core_window.specs.Core.{Core, Pair}
use Rattle.core_window.specs.Events.{after_step, committed, is_open, may_commit}
use Rattle.core_window.specs.Outcomes.{outcome_in}
use Rattle.core_window.specs.View.{View, all_known, known_outcome, past, past_by}
use Rattle.core_window.specs.declared.records.Entry.{Entry}
use Rattle.core_window.specs.declared.records.Outcome.{Outcome}
use Rattle.core_window.specs.declared.records.Outcome.TheVariants.{Trapped, Parts}
use Rattle.core_window.specs.declared.records.Status.{Status}
use Rattle.core_window.specs.declared.records.Status.TheVariants.{Waiting, Running, Done}

-- a step goes by the instruction of the word at its pc
pub went-by : (x : Mips) (word : ℕ) (o : Option Instr) → code_word_at x.memory x.pc ≡ Some word → decode_of word ≡ o
    → (step_of x).answer ≡ Went → (i : Instr) × (o ≡ Some i) × WentBy x word i
went-by x word o found decoded went =
    let w = went_by x went in
    let same : w.0 ≡ word = some-same w.0 word (sym w.2.found ∙ found) in
    let is : o ≡ Some w.1 = sym decoded ∙ sym (ap decode_of same) ∙ w.2.decoded in
    (w.1, is, record { not_exit = w.2.not_exit; found = found; decoded = decoded ∙ is; no_trap = w.2.no_trap; no_late_trap = w.2.no_late_trap })
  where
    some-same : (a b : ℕ) → ◌≡◌ {A = Option ℕ} (Some a) (Some b) → a ≡ b
    some-same a b e = cc

-- a result that an entry has by what is known of a state is that of the state's step
pub outcome-of-step : (x : Mips) (i : Instr) (r : Outcome) → known_outcome (all_known x) i x.pc x.next_pc ≡ Some r → outcome_in i x ≡ r
outcome-of-step x i r e = (outcome-is (all_known x) i x.pc x.next_pc r e).1

by-status : (x : Mips) (word : ℕ) (i : Instr) (s : Status) (v : View) → WentBy x word i → StatusFits (Some i) v x.pc x.next_pc s
    → Below v (all_known x) → Below (past_by (Some i) (Done (Parts (retired_of i x))) v) (all_known (changed i (retired_of i x) x))
    → Below (past_by (Some i) s v) (all_known (changed i (retired_of i x) x))
unfolding StatusFits past_by
by-status x word i Waiting v w fit b done = below-again _ _ _ (past-learns i (Parts (retired_of i x)) v) done
by-status x word i (Running r) v w fit b done = below-again _ _ _ (past-learns i (Parts (retired_of i x)) v) done
by-status x word i (Done (Trapped k)) v w fit b done =
    let up = outcome-below v (all_known x) i x.pc x.next_pc (Trapped k) (decode_of_fits word i w.decoded) b fit in
    let trap : trap_of i x ≡ Some k = trap-is i x k (outcome-of-step x i (Trapped k) up) in
    let none : trap_of i x ≡ None = w.no_trap in
    cc
by-status x word i (Done (Parts r)) v w fit b done =
    let up = outcome-below v (all_known x) i x.pc x.next_pc (Parts r) (decode_of_fits word i w.decoded) b fit in
    let is : retired_of i x ≡ r = (parts-are i x r (outcome-of-step x i (Parts r) up)).1 in
    subst (λ q. Below (past_by (Some i) (Done (Parts q)) v) (all_known (changed i (retired_of i x) x))) is done

-- past an entry that stands at the state's next step, no more is known than of the state after it
past-step : (x : Mips) (word : ℕ) (i : Instr) (s : Status) (v : View) → WentBy x word i → StatusFits (Some i) v x.pc x.next_pc s
    → Below v (all_known x) → Below (past_by (Some i) s v) (all_known (changed i (retired_of i x) x))
past-step x word i s v w fit b =
    let r = retired_of i x in
    let gives : (q : Retired) → ◌≡◌ {A = Status} (Done (Parts r)) (Done (Parts q)) → Gives (writes_of i) q.write =
    λ q e. let same : r ≡ q = cc in subst (λ (t : Retired). Gives (writes_of i) t.write) same (retired-gives i x w.no_trap) in
    let done : Below (past_by (Some i) (Done (Parts r)) v) (all_known (changed i r x)) =
    subst (λ u. Below (past_by (Some i) (Done (Parts r)) v) u) (past-all i r x) (past-below i (Done (Parts r)) v (all_known x) gives b) in
    by-status x word i s v w fit b done

pub past-of-step : (x : Mips) (word : ℕ) (o : Option Instr) (s : Status) (v : View) → code_word_at x.memory x.pc ≡ Some word → decode_of word ≡ o
    → StatusFits o v x.pc x.next_pc s → Below v (all_known x) → (step_of x).answer ≡ Went → Below (past_by o s v) (all_known (step_of x).state)
past-of-step x word o s v found decoded fit b went =
    let w = went-by x word o found decoded went in
    let up = past-step x word w.0 s v w.2 (subst (λ t. StatusFits t v x.pc x.next_pc s) w.1 fit) b in
    let state : (step_of x).state ≡ changed w.0 (retired_of w.0 x) x = ap (λ (t : Stepped). t.state) (step-went x word w.0 w.2) in
    subst (λ y. Below (past_by o s v) (all_known y)) (sym state) (subst (λ t. Below (past_by t s v) (all_known (changed w.0 (retired_of w.0 x) x))) (sym w.1) up)

-- where an entry that is done went on as guessed, so does the step
next-is : (x : Mips) (word : ℕ) (i : Instr) (s : Status) (guess : ℕ) → WentBy x word i → StatusFits (Some i) (all_known x) x.pc x.next_pc s
    → may_commit s guess ≡ true → (step_of x).state.next_pc ≡ guess
unfolding StatusFits
next-is x word i Waiting guess w fit may = cc
next-is x word i (Running r) guess w fit may = cc
next-is x word i (Done (Trapped k)) guess w fit may =
    let trap : trap_of i x ≡ Some k = trap-is i x k (outcome-of-step x i (Trapped k) fit) in
    let none : trap_of i x ≡ None = w.no_trap in
    cc
next-is x word i (Done (Parts r)) guess w fit may =
    let is : retired_of i x ≡ r = (parts-are i x r (outcome-of-step x i (Parts r) fit)).1 in
    let same : r.next ≡ guess = grind (arith, common_steps, may) in
    went-next_pc x word i w ∙ ap (λ (q : Retired). q.next) is ∙ same

pub next-of-step : (x : Mips) (word : ℕ) (o : Option Instr) (s : Status) (guess : ℕ) → code_word_at x.memory x.pc ≡ Some word → decode_of word ≡ o
    → StatusFits o (all_known x) x.pc x.next_pc s → may_commit s guess ≡ true → (step_of x).answer ≡ Went → (step_of x).state.next_pc ≡ guess
next-of-step x word o s guess found decoded fit may went =
    let w = went-by x word o found decoded went in
    next-is x word w.0 s guess w.2 (subst (λ t. StatusFits t (all_known x) x.pc x.next_pc s) w.1 fit) may

-- the rest of a list past a step
pub rest-fits : (x : Mips) (e : Entry) (rest : List Entry) (p q : ℕ) → LaidOut 0 x.memory.spans
    → AllFit (code_word_at x.memory) (all_known x) x.pc x.next_pc (e ∷ rest) p q → may_commit e.status e.guess ≡ true → (step_of x).answer ≡ Went
    → AllFit (code_word_at (step_of x).state.memory) (all_known (step_of x).state) (step_of x).state.pc (step_of x).state.next_pc rest p q
unfolding AllFit
rest-fits x e rest p q laid h may went =
    let y = (step_of x).state in
    let fits = h.0 in
    let found : code_word_at x.memory x.pc ≡ Some fits.code_is.0 = subst (λ a. code_word_at x.memory a ≡ Some fits.code_is.0) fits.pc_is fits.code_is.1 in
    let status : StatusFits e.instr (all_known x) x.pc x.next_pc e.status =
    subst (λ a. StatusFits e.instr (all_known x) a x.next_pc e.status) fits.pc_is
    (subst (λ a. StatusFits e.instr (all_known x) e.pc a e.status) fits.npc_is fits.status_is) in
    let below = past-of-step x fits.code_is.0 e.instr e.status (all_known x) found fits.code_is.2 status (below-same (all_known x)) went in
    let next : y.next_pc ≡ e.guess = next-of-step x fits.code_is.0 e.instr e.status e.guess found fits.code_is.2 status may went in
    let there : AllFit (code_word_at x.memory) (all_known y) x.next_pc e.guess rest p q =
    all-below (code_word_at x.memory) (past (all_known x) e) (all_known y) x.next_pc e.guess rest p q below h.1 in
    let coded : AllFit (code_word_at y.memory) (all_known y) x.next_pc e.guess rest p q =
    all-code (code_word_at x.memory) (code_word_at y.memory) (all_known y) x.next_pc e.guess rest p q
    (λ a. sym (code_word-kept x.memory y.memory a laid (step_keeps x))) there in
    subst (λ a. AllFit (code_word_at y.memory) (all_known y) a y.next_pc rest p q) (sym (went-pc x went))
    (subst (λ a. AllFit (code_word_at y.memory) (all_known y) x.next_pc a rest p q) (sym next) coded)

-- an ending
exit-step : (y : Mips) (b : Bool) → at_exit y ≡ b → EndingFits (cond b (Some Exit) None) y
unfolding EndingFits step_of
exit-step y true e = ap (λ b. (cond b (record { answer = Exit; state = y }) (fetched (code_word_at y.memory y.pc) y)).answer) e
exit-step y false e = tt

abbrev pub StandsPair : Pair → Type 0
StandsPair p = Stands p.core p.state

-- a step keeps how many registers there are
pub registers-of-step : (x : Mips) (word : ℕ) (o : Option Instr) → code_word_at x.memory x.pc ≡ Some word → decode_of word ≡ o
    → (step_of x).answer ≡ Went → length (step_of x).state.registers ≡ length x.registers
unfolding changed
registers-of-step x word o found decoded went =
    let w = went-by x word o found decoded went in
    let state : (step_of x).state ≡ changed w.0 (retired_of w.0 x) x = ap (λ (t : Stepped). t.state) (step-went x word w.0 w.2) in
    ap (λ (y : Mips). length y.registers) state ∙ registers-room (writes_of w.0) (retired_of w.0 x).write x.registers

after-stands : (c : Core) (x : Mips) (e : Entry) (rest : List Entry) (a : Step) → Stands c x → c.entries ≡ e ∷ rest
    → may_commit e.status e.guess ≡ true → (step_of x).answer ≡ a → StandsPair (after_step c rest x a (step_of x).state)
unfolding AllFit EndingFits
after-stands c x e rest Went h is may went =
    let fit = subst (λ es. AllFit (code_word_at x.memory) (all_known x) x.pc x.next_pc es c.fetch_pc c.fetch_next) is h.fit in
    let found : code_word_at x.memory x.pc ≡ Some fit.0.code_is.0 = subst (λ a. code_word_at x.memory a ≡ Some fit.0.code_is.0) fit.0.pc_is fit.0.code_is.1 in
    record {
      registers = registers-of-step x fit.0.code_is.0 e.instr found fit.0.code_is.2 went ∙ h.registers;
      laid_out = subst (LaidOut 0) (sym (step_keeps x).spans_are) h.laid_out;
      room = omega (arith, h.room, ap length is);
      fit = rest-fits x e rest c.fetch_pc c.fetch_next h.laid_out fit may went;
      ending_is = exit-step (step_of x).state (at_exit (step_of x).state) refl;
    }
after-stands c x e rest Exit h is may went =
    record { registers = h.registers; laid_out = h.laid_out; room = h.room; fit = h.fit; ending_is = went }
after-stands c x e rest (Trap kind pc) h is may went =
    record { registers = h.registers; laid_out = h.laid_out; room = h.room; fit = h.fit; ending_is = went }

if-pair : (b : Bool) (p : Pair) (P : Pair → Type 0) → (b ≡ true → P p) → IfSome (cond b (Some p) None) P
if-pair true p P h = h refl
if-pair false p P h = tt

pub commit-stands : (c : Core) (x : Mips) (es : List Entry) → Stands c x → c.entries ≡ es → IfSome (committed c x es) StandsPair
commit-stands c x [] h is = tt
commit-stands c x (e ∷ rest) h is =
    if-pair (is_open c.ending && may_commit e.status e.guess) (after_step c rest x (step_of x).answer (step_of x).state) StandsPair
    (λ b. after-stands c x e rest (step_of x).answer h is (and-right (is_open c.ending) _ b) refl)
