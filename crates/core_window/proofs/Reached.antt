-- An outcome that an entry has is the one of the reference's step there.
use Rattle.std.proofs.Common.{◌≡◌, ℕ, zero, suc, ◌+◌, List, [], ◌∷◌, Option, Some, None, refl, sym, ap, ◌∙◌, subst, arith}
use Rattle.mips_isa.specs.Decoding.{decode_of}
use Rattle.mips_isa.specs.declared.instr.Instr.{Instr}
use Rattle.mips_ref.proofs.CodeKept.{code_word-kept}
use Rattle.mips_ref.proofs.Frame.{step_keeps}
use Rattle.mips_ref.proofs.Steps.{not_at_exit, step-retires, went-pc}
use Rattle.mips_ref.specs.Facts.{Retires}
use Rattle.mips_ref.specs.Job.{after}
use Rattle.mips_ref.specs.Memory.{LaidOut, code_word_at}
use Rattle.mips_ref.specs.Mips.{Mips}
use Rattle.mips_ref.specs.Step.{decoded, executed, fetched, step_of, trap_of, trapped, unless_trapped}
use Rattle.mips_ref.specs.declared.records.TrapKind.{TrapKind}
use Rattle.mips_ref.specs.declared.records.TrapKind.TheVariants.{Reserved}
use Rattle.core_window.proofs.Commit.{past-of-step, outcome-of-step}
use Rattle.core_window.proofs.EachEvent.{after-plus}
use Rattle.core_window.proofs.Fit.{parts-are, status-below, trap-is}
use Rattle.core_window.proofs.Views.{Below, below-same}
use Rattle.core_window.specs.Beside.{AllFit, Stands, StatusFits}
use Rattle.core_window.specs.Core.{Core}
use Rattle.core_window.specs.Outcomes.{outcome_of}
use Rattle.core_window.specs.Reached.{Reaches, StepIs}
use Rattle.core_window.specs.View.{View, all_known, known_outcome, past}
use Rattle.core_window.specs.declared.records.Entry.{Entry}
use Rattle.core_window.specs.declared.records.Outcome.{Outcome}
use Rattle.core_window.specs.declared.records.Outcome.TheVariants.{Trapped, Parts}
use Rattle.core_window.specs.declared.records.Status.{Status}
use Rattle.core_window.specs.declared.records.Status.TheVariants.{Waiting, Running, Done}

reserved-step : (x : Mips) (word : ℕ) → LaidOut 0 x.memory.spans → code_word_at x.memory x.pc ≡ Some word → decode_of word ≡ None
    → step_of x ≡ trapped Reserved x
unfolding step_of
reserved-step x word laid found none =
    rw (not_at_exit x word laid found) (ap (λ o. fetched o x) found ∙ ap (λ o. decoded o x) none)

trapped-step : (x : Mips) (word : ℕ) (i : Instr) (k : TrapKind) → LaidOut 0 x.memory.spans → code_word_at x.memory x.pc ≡ Some word
    → decode_of word ≡ Some i → trap_of i x ≡ Some k → step_of x ≡ trapped k x
unfolding step_of executed
trapped-step x word i k laid found is trap =
    rw (not_at_exit x word laid found)
    (ap (λ o. fetched o x) found ∙ ap (λ o. decoded o x) is ∙ ap (λ t. unless_trapped t i x) trap)

by-outcome : (x : Mips) (word : ℕ) (i : Instr) (r : Outcome) → LaidOut 0 x.memory.spans → code_word_at x.memory x.pc ≡ Some word
    → decode_of word ≡ Some i → known_outcome (all_known x) i x.pc x.next_pc ≡ Some r → StepIs (Some i) r x
unfolding StepIs
by-outcome x word i (Trapped k) laid found is out = trapped-step x word i k laid found is (trap-is i x k (outcome-of-step x i (Trapped k) out))
by-outcome x word i (Parts r) laid found is out =
    let h = parts-are i x r (outcome-of-step x i (Parts r) out) in
    let retires : Retires x i r = record { code = (word, found, is); no_trap = h.0; parts = sym h.1 } in
    (retires, step-retires x i r laid retires)

some-same : (a b : Outcome) → ◌≡◌ {A = Option Outcome} (Some a) (Some b) → a ≡ b
some-same a b e = cc

step-is : (x : Mips) (word : ℕ) (o : Option Instr) (s : Status) (r : Outcome) → LaidOut 0 x.memory.spans → code_word_at x.memory x.pc ≡ Some word
    → decode_of word ≡ o → StatusFits o (all_known x) x.pc x.next_pc s → outcome_of s ≡ Some r → StepIs o r x
unfolding StatusFits StepIs
step-is x word None s r laid found is fit has =
    let same : Trapped Reserved ≡ r = some-same (Trapped Reserved) r (sym (ap outcome_of fit) ∙ has) in
    subst (λ t. StepIs None t x) same (reserved-step x word laid found is)
step-is x word (Some i) Waiting r laid found is fit has = cc
step-is x word (Some i) (Running q) r laid found is fit has = by-outcome x word i r laid found is (fit ∙ has)
step-is x word (Some i) (Done q) r laid found is fit has = by-outcome x word i r laid found is (fit ∙ has)

-- the reference stands where the first entry does
reaches-first : (code : ℕ → Option ℕ) (v : View) (pc npc : ℕ) (es : List Entry) (p q : ℕ) (x : Mips) (k : ℕ) (e : Entry)
    → AllFit code v pc npc es p q → Reaches x es k e → x.pc ≡ pc
unfolding AllFit Reaches
reaches-first code v pc npc [] p q x k e h r = absurd r
reaches-first code v pc npc (f ∷ rest) p q x zero e h r = r.0 ∙ h.0.pc_is
reaches-first code v pc npc (f ∷ rest) p q x (suc k) e h r = r.0 ∙ h.0.pc_is

outcomes : (code : ℕ → Option ℕ) (v : View) (pc npc : ℕ) (es : List Entry) (p q : ℕ) (x : Mips) (k : ℕ) (e : Entry) (r : Outcome)
    → LaidOut 0 x.memory.spans → ((a : ℕ) → code_word_at x.memory a ≡ code a) → AllFit code v pc npc es p q → Below v (all_known x)
    → Reaches x es k e → outcome_of e.status ≡ Some r → StepIs e.instr r (after k x)
unfolding AllFit Reaches after
outcomes code v pc npc [] p q x k e r laid same h b there has = absurd there
outcomes code v pc npc (f ∷ rest) p q x zero e r laid same h b there has =
    let fits = h.0 in
    let found : code_word_at x.memory x.pc ≡ Some fits.code_is.0 = same x.pc ∙ ap code there.0 ∙ fits.code_is.1 in
    let status = status-below f.instr f.status v (all_known x) f.pc f.npc fits.code_is.0 fits.code_is.2 fits.status_is b in
    let here : StatusFits f.instr (all_known x) x.pc x.next_pc f.status =
    subst (λ a. StatusFits f.instr (all_known x) a x.next_pc f.status) (sym there.0)
    (subst (λ a. StatusFits f.instr (all_known x) f.pc a f.status) (sym there.1) status) in
    let had : outcome_of f.status ≡ Some r = ap (λ (g : Entry). outcome_of g.status) there.2 ∙ has in
    subst (λ (g : Entry). StepIs g.instr r x) there.2 (step-is x fits.code_is.0 f.instr f.status r laid found fits.code_is.2 here had)
outcomes code v pc npc (f ∷ rest) p q x (suc k) e r laid same h b there has =
    let fits = h.0 in
    let y = (step_of x).state in
    let found : code_word_at x.memory x.pc ≡ Some fits.code_is.0 = same x.pc ∙ ap code there.0 ∙ fits.code_is.1 in
    let next : x.next_pc ≡ f.npc =
    sym (went-pc x there.1) ∙ reaches-first code (past v f) npc f.guess rest p q y k e h.1 there.2 ∙ sym fits.npc_is in
    let here : StatusFits f.instr v x.pc x.next_pc f.status =
    subst (λ a. StatusFits f.instr v a x.next_pc f.status) (sym there.0)
    (subst (λ a. StatusFits f.instr v f.pc a f.status) (sym next) fits.status_is) in
    let below = past-of-step x fits.code_is.0 f.instr f.status v found fits.code_is.2 here b there.1 in
    let kept = step_keeps x in
    let up = outcomes code (past v f) npc f.guess rest p q y k e r (subst (LaidOut 0) (sym kept.spans_are) laid)
    (λ a. code_word-kept x.memory y.memory a laid kept ∙ same a) h.1 below there.2 has in
    let one : 1 + k ≡ suc k = omega arith in
    subst (λ n. StepIs e.instr r (after n x)) one (subst (StepIs e.instr r) (after-plus k 1 x) up)

pub law-of-outcomes : (c : Core) (x : Mips) (k : ℕ) (e : Entry) (r : Outcome) → Stands c x
    → Reaches x c.entries k e → outcome_of e.status ≡ Some r → StepIs e.instr r (after k x)
law-of-outcomes c x k e r h there has =
    outcomes (code_word_at x.memory) (all_known x) x.pc x.next_pc c.entries c.fetch_pc c.fetch_next x k e r h.laid_out (λ a. refl) h.fit
    (below-same (all_known x)) there has

pub oldest-outcome : (c : Core) (x : Mips) (e : Entry) (rest : List Entry) (r : Outcome) → Stands c x
    → c.entries ≡ e ∷ rest → outcome_of e.status ≡ Some r → StepIs e.instr r x
unfolding AllFit Reaches after
oldest-outcome c x e rest r h is has =
    let fit = subst (λ es. AllFit (code_word_at x.memory) (all_known x) x.pc x.next_pc es c.fetch_pc c.fetch_next) is h.fit in
    let there : Reaches x (e ∷ rest) zero e = (sym fit.0.pc_is, sym fit.0.npc_is, refl) in
    law-of-outcomes c x zero e r h (subst (λ es. Reaches x es zero e) (sym is) there) has

pub oldest-pc : (c : Core) (x : Mips) (e : Entry) (rest : List Entry) → Stands c x → c.entries ≡ e ∷ rest → e.pc ≡ x.pc
unfolding AllFit
oldest-pc c x e rest h is =
    let fit = subst (λ es. AllFit (code_word_at x.memory) (all_known x) x.pc x.next_pc es c.fetch_pc c.fetch_next) is h.fit in
    fit.0.pc_is
