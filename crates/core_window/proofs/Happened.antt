-- What is made of an event, as the calls of a window say it.
use Rattle.std.proofs.Common.{◌≡◌, ◌<◌, ◌+◌, ℕ, Bool, true, false, cond, eqb, List, [], ◌∷◌, ◌++◌, drop, get_or, length, take, Option, Some, None, refl, sym, ap, ap₂, ◌∙◌, subst, arith}
use Rattle.std.proofs.lemmas.List.{take_more}
use Rattle.std.specs.Prelude.{not, ◌&&◌, is_some, slice_get}
use Rattle.mips_isa.specs.declared.instr.Instr.{Instr}
use Rattle.mips_isa.proofs.Relation.{decode_of_fits}
use Rattle.mips_isa.specs.Fits.{FieldsFit}
use Rattle.mips_ref.proofs.Steps.{stays_put}
use Rattle.mips_ref.specs.Memory.{IsMemory, code_word_at}
use Rattle.mips_ref.specs.Facts.{Retires}
use Rattle.mips_ref.specs.Mips.{IsState, Mips}
use Rattle.mips_ref.specs.Step.{Stepped, step_of, trapped}
use Rattle.mips_ref.specs.declared.records.Retired.{Retired}
use Rattle.mips_ref.specs.declared.records.Step.{Step}
use Rattle.mips_ref.specs.declared.records.Step.TheVariants.{Went, Exit, Trap}
use Rattle.mips_ref.specs.declared.records.TrapKind.{TrapKind}
use Rattle.core_window.proofs.At.{at-place}
use Rattle.core_window.proofs.EachEvent.{event-stands}
use Rattle.core_window.proofs.Reached.{oldest-outcome, oldest-pc}
use Rattle.core_window.specs.Beside.{AllFit, EndingFits, Stands}
use Rattle.core_window.specs.Core.{Core, Pair, paired}
use Rattle.core_window.specs.Events.{after_step, all_happen, attempt, beside, committable, committed, cut_after, fetched, finished, happens, is_open, issued, may_commit, or_core, or_same, squashed, squashed_by, surprise}
use Rattle.core_window.specs.Outcomes.{controls, outcome_of}
use Rattle.core_window.specs.Reached.{StepIs}
use Rattle.core_window.specs.View.{all_known}
use Rattle.core_window.specs.declared.records.Entry.{Entry}
use Rattle.core_window.specs.declared.records.Event.{Event}
use Rattle.core_window.specs.declared.records.Event.TheVariants.{Fetch, Issue, Finish, Commit, Squash}
use Rattle.core_window.specs.declared.records.Outcome.{Outcome}
use Rattle.core_window.specs.declared.records.Outcome.TheVariants.{Trapped, Parts}
use Rattle.core_window.specs.declared.records.Status.{Status}
use Rattle.core_window.specs.declared.records.Status.TheVariants.{Waiting, Running, Done}

-- what a call of `apply` leaves, by the event's definition
pub record Applied (c : Core) (x : Mips) (e : Event) (made : Bool) (d : Core) (y : Mips) : Type 0 where
  pub enabled : made ≡ is_some (attempt c x e)
  pub core : d ≡ (happens (paired c x) e).core
  pub state : y ≡ (happens (paired c x) e).state
  pub stands : Stands d y

by-attempt : (c : Core) (x : Mips) (e : Event) (o : Option Pair) (made : Bool) (d : Core) (y : Mips) → Stands c x → attempt c x e ≡ o → made ≡ is_some o
    → d ≡ (or_same (paired c x) o).core → y ≡ (or_same (paired c x) o).state → Applied c x e made d y
unfolding happens
by-attempt c x e o made d y h is m core state =
    let p = happens (paired c x) e in
    let core_is : d ≡ p.core = core ∙ ap (λ q. (or_same (paired c x) q).core) (sym is) in
    let state_is : y ≡ p.state = state ∙ ap (λ q. (or_same (paired c x) q).state) (sym is) in
    record {
      enabled = m ∙ ap is_some (sym is);
      core = core_is;
      state = state_is;
      stands = subst (λ z. Stands d z) (sym state_is) (subst (λ b. Stands b p.state) (sym core_is) (event-stands (paired c x) e h));
    }

-- an event that only changes the window
by-core : (c : Core) (x : Mips) (e : Event) (o : Option Core) (made : Bool) (d : Core) → Stands c x → attempt c x e ≡ beside x o → made ≡ is_some o
    → d ≡ or_core c o → Applied c x e made d x
by-core c x e None made d h is m core = by-attempt c x e None made d x h is m core refl
by-core c x e (Some b) made d h is m core = by-attempt c x e (Some (paired b x)) made d x h is m core refl

pub applied-fetch : (c : Core) (x : Mips) (e : Event) (guess : ℕ) (made : Bool) (d : Core) → Stands c x → e ≡ Fetch guess
    → made ≡ is_some (fetched c guess (code_word_at x.memory c.fetch_pc)) → d ≡ or_core c (fetched c guess (code_word_at x.memory c.fetch_pc))
    → Applied c x e made d x
unfolding attempt
applied-fetch c x e guess made d h is m core = by-core c x e (fetched c guess (code_word_at x.memory c.fetch_pc)) made d h (ap (attempt c x) is) m core

pub applied-issue : (c : Core) (x : Mips) (e : Event) (k : ℕ) (made : Bool) (d : Core) → Stands c x → e ≡ Issue k
    → made ≡ is_some (issued c x k (slice_get c.entries k)) → d ≡ or_core c (issued c x k (slice_get c.entries k)) → Applied c x e made d x
unfolding attempt
applied-issue c x e k made d h is m core = by-core c x e (issued c x k (slice_get c.entries k)) made d h (ap (attempt c x) is) m core

pub applied-finish : (c : Core) (x : Mips) (e : Event) (k : ℕ) (made : Bool) (d : Core) → Stands c x → e ≡ Finish k
    → made ≡ is_some (finished c k (slice_get c.entries k)) → d ≡ or_core c (finished c k (slice_get c.entries k)) → Applied c x e made d x
unfolding attempt
applied-finish c x e k made d h is m core = by-core c x e (finished c k (slice_get c.entries k)) made d h (ap (attempt c x) is) m core

pub applied-squash : (c : Core) (x : Mips) (e : Event) (k : ℕ) (made : Bool) (d : Core) → Stands c x → e ≡ Squash k
    → made ≡ is_some (squashed c k (slice_get c.entries k)) → d ≡ or_core c (squashed c k (slice_get c.entries k)) → Applied c x e made d x
unfolding attempt
applied-squash c x e k made d h is m core = by-core c x e (squashed c k (slice_get c.entries k)) made d h (ap (attempt c x) is) m core

pub applied-commit : (c : Core) (x : Mips) (e : Event) (made : Bool) (d : Core) (y : Mips) → Stands c x → e ≡ Commit
    → made ≡ is_some (committed c x c.entries) → d ≡ (or_same (paired c x) (committed c x c.entries)).core
    → y ≡ (or_same (paired c x) (committed c x c.entries)).state → Applied c x e made d y
unfolding attempt
applied-commit c x e made d y h is m core state = by-attempt c x e (committed c x c.entries) made d y h (ap (attempt c x) is) m core state

-- a wrong guess
pub no_squash : (c : Core) (k : ℕ) (e : Entry) → surprise e.instr e.status e.guess ≡ None → squashed_by c k e e.status ≡ None
no_squash c k e = by e.status
  where
    by-test : (b : Bool) (next : ℕ) (d : Core) → cond b (Some next) None ≡ None → cond b (Some d) None ≡ None
    by-test true next d h = cc
    by-test false next d h = refl

    by : (t : Status) → surprise e.instr t e.guess ≡ None → squashed_by c k e t ≡ None
    by Waiting h = refl
    by (Running r) h = refl
    by (Done (Trapped t)) h = refl
    by (Done (Parts r)) h = by-test (controls e.instr && not (eqb r.next e.guess)) r.next (cut_after c k e r.next (slice_get c.entries (k + 1))) h

pub squash_to : (c : Core) (k : ℕ) (e : Entry) (next : ℕ) → surprise e.instr e.status e.guess ≡ Some next
    → squashed_by c k e e.status ≡ Some (cut_after c k e next (slice_get c.entries (k + 1)))
squash_to c k e next = by e.status
  where
    by-test : (b : Bool) (n : ℕ) → cond b (Some n) None ≡ Some next
        → cond b (Some (cut_after c k e n (slice_get c.entries (k + 1)))) None ≡ Some (cut_after c k e next (slice_get c.entries (k + 1)))
    by-test true n h =
        let same : n ≡ next = cc in
        ap (λ m. Some (cut_after c k e m (slice_get c.entries (k + 1)))) same
    by-test false n h = cc

    by : (t : Status) → surprise e.instr t e.guess ≡ Some next → squashed_by c k e t ≡ Some (cut_after c k e next (slice_get c.entries (k + 1)))
    by Waiting h = cc
    by (Running r) h = cc
    by (Done (Trapped t)) h = cc
    by (Done (Parts r)) h = by-test (controls e.instr && not (eqb r.next e.guess)) r.next h

-- a commit
pub commit_by : (s : Status) (guess : ℕ) → may_commit s guess ≡ is_some (committable s guess)
commit_by Waiting guess = refl
commit_by (Running r) guess = refl
commit_by (Done (Trapped k)) guess = refl
commit_by (Done (Parts r)) guess = by (eqb r.next guess)
  where
    by : (b : Bool) → b ≡ is_some (cond b (Some (Parts r)) None)
    by true = refl
    by false = refl

pub commit_has : (s : Status) (guess : ℕ) (r : Outcome) → committable s guess ≡ Some r → outcome_of s ≡ Some r
commit_has Waiting guess r e = cc
commit_has (Running q) guess r e = cc
commit_has (Done (Trapped k)) guess r e = e
commit_has (Done (Parts q)) guess r e = by (eqb q.next guess) e
  where
    by : (b : Bool) → cond b (Some (Parts q)) None ≡ Some r → Some (Parts q) ≡ Some r
    by true h = h
    by false h = cc

-- the committed state after a step that goes or doesn't
pub step_state : (c : Core) (rest : List Entry) (x : Mips) → (after_step c rest x (step_of x).answer (step_of x).state).state ≡ (step_of x).state
step_state c rest x = by (step_of x).answer refl
  where
    by : (a : Step) → (step_of x).answer ≡ a → (after_step c rest x a (step_of x).state).state ≡ (step_of x).state
    by Went e = refl
    by Exit e = sym (stays_put x (λ w. cc))
    by (Trap k pc) e = sym (stays_put x (λ w. cc))

pub first-entry : (l : List Entry) (e : Entry) → slice_get l 0 ≡ Some e → (rest : List Entry) × (l ≡ e ∷ rest)
first-entry [] e g = cc
first-entry (f ∷ rest) e g = (rest, ap (λ (t : Entry). t ∷ rest) (some-entry f e g))
  where
    some-entry : (a b : Entry) → ◌≡◌ {A = Option Entry} (Some a) (Some b) → a ≡ b
    some-entry a b h = cc

-- the oldest entry's parts are those of the state's step, and its trap is the step's
pub oldest_retires : (c : Core) (x : Mips) (e : Entry) (i : Instr) (r : Retired) → Stands c x → slice_get c.entries 0 ≡ Some e → e.instr ≡ Some i
    → outcome_of e.status ≡ Some (Parts r) → Retires x i r
unfolding StepIs
oldest_retires c x e i r h is ei has =
    let at = first-entry c.entries e is in
    let step = oldest-outcome c x e at.0 (Parts r) h at.1 has in
    (subst (λ o. StepIs o (Parts r) x) ei step).0

-- an entry without an instruction has no parts
pub no_parts : (c : Core) (x : Mips) (e : Entry) (r : Retired) → Stands c x → slice_get c.entries 0 ≡ Some e → e.instr ≡ None
    → outcome_of e.status ≡ Some (Parts r) → ⊥
unfolding StepIs
no_parts c x e r h is ei has =
    let at = first-entry c.entries e is in
    let step = oldest-outcome c x e at.0 (Parts r) h at.1 has in
    subst (λ o. StepIs o (Parts r) x) ei step

pub oldest_traps : (c : Core) (x : Mips) (e : Entry) (k : TrapKind) → Stands c x → slice_get c.entries 0 ≡ Some e
    → outcome_of e.status ≡ Some (Trapped k) → (step_of x ≡ trapped k x) × (e.pc ≡ x.pc)
unfolding StepIs
oldest_traps c x e k h is has =
    let at = first-entry c.entries e is in
    (oldest-outcome c x e at.0 (Trapped k) h at.1 has, oldest-pc c x e at.0 h at.1)

-- a commit that is made
open-if : (o : Option Step) → is_some o ≡ false → is_open o ≡ true
open-if None e = refl
open-if (Some s) e = cc

pub commit-made : (c : Core) (x : Mips) (e : Entry) (r : Outcome) → slice_get c.entries 0 ≡ Some e → is_some c.ending ≡ false
    → committable e.status e.guess ≡ Some r
    → committed c x c.entries ≡ Some (after_step c (drop 1 c.entries) x (step_of x).answer (step_of x).state)
commit-made c x e r is none has =
    let at = first-entry c.entries e is in
    let may : may_commit e.status e.guess ≡ true = commit_by e.status e.guess ∙ ap is_some has in
    subst (λ l. committed c x l ≡ Some (after_step c (drop 1 l) x (step_of x).answer (step_of x).state)) (sym at.1)
    (if-made (is_open c.ending) (may_commit e.status e.guess) _ (open-if c.ending none) may)
  where
    if-made : (a b : Bool) (p : Pair) → a ≡ true → b ≡ true → cond (a && b) (Some p) None ≡ Some p
    if-made true true p e f = refl
    if-made true false p e f = cc
    if-made false b p e f = cc

pub trap-commits : (c : Core) (x : Mips) (e : Entry) (k : TrapKind) (rest : List Entry) → Stands c x → slice_get c.entries 0 ≡ Some e
    → outcome_of e.status ≡ Some (Trapped k)
    → (record c { ending = Some (Trap k e.pc) } ≡ (after_step c rest x (step_of x).answer (step_of x).state).core) × (x ≡ (step_of x).state)
trap-commits c x e k rest h is has =
    let t = oldest_traps c x e k h is has in (
      subst (λ (s : Stepped). record c { ending = Some (Trap k e.pc) } ≡ (after_step c rest x s.answer s.state).core) (sym t.0)
          (ap (λ p. with-ending (Some (Trap k p))) t.1),
      ap (λ (s : Stepped). s.state) (sym t.0),
    )
  where
    with-ending : Option Step → Core
    with-ending o = record c { ending = o }

-- one more event of a list
happen-more : (p : Pair) (events : List Event) (e : Event) → all_happen p (events ++ e ∷ []) ≡ happens (all_happen p events) e
unfolding all_happen
happen-more p [] e = refl
happen-more p (f ∷ rest) e = happen-more (happens p f) rest e

-- a window and a state that are those after some events, or after none
pub record Happened (p : Pair) (events : List Event) (c : Core) (x : Mips) : Type 0 where
  pub core : c ≡ (all_happen p events).core
  pub state : x ≡ (all_happen p events).state
  pub stands : Stands c x

pub happened-none : (p : Pair) → Stands p.core p.state → Happened p [] p.core p.state
unfolding all_happen
happened-none p h = record { core = refl; state = refl; stands = h }

pub happened-more : (p : Pair) (events : List Event) (i : ℕ) (e : Event) (c d : Core) (x y : Mips) → i < length events
    → Happened p (take i events) c x → d ≡ (happens (paired c x) (get_or events i e)).core → y ≡ (happens (paired c x) (get_or events i e)).state
    → Stands d y → Happened p (take (i + 1) events) d y
happened-more p events i e c d x y below h core state stands =
    let q = all_happen p (take i events) in
    let before : paired c x ≡ q = ap₂ paired h.core h.state in
    let after : happens (paired c x) (get_or events i e) ≡ all_happen p (take (i + 1) events) =
    ap (λ r. happens r (get_or events i e)) before ∙ sym (happen-more p (take i events) (get_or events i e))
    ∙ ap (all_happen p) (sym (take_more events i e below)) in
    record { core = core ∙ ap (λ (r : Pair). r.core) after; state = state ∙ ap (λ (r : Pair). r.state) after; stands = stands }

-- a window that opens on a state stands beside it
pub opens-beside : (c : Core) (x : Mips) → c.entries ≡ [] → c.fetch_pc ≡ x.pc → c.fetch_next ≡ x.next_pc → c.ending ≡ None → IsState x
    → IsMemory x.memory → Stands c x
unfolding AllFit EndingFits
opens-beside c x none pc next going state memory =
    record {
      registers = state.registers;
      laid_out = memory.laid_out;
      room = omega (arith, ap length none);
      fit = subst (λ l. AllFit (code_word_at x.memory) (all_known x) x.pc x.next_pc l c.fetch_pc c.fetch_next) (sym none) (pc, next);
      ending_is = subst (λ o. EndingFits o x) (sym going) tt;
    }

-- an instruction of an entry fits
pub entry_fits : (c : Core) (x : Mips) (k : ℕ) (e : Entry) (i : Instr) → Stands c x → slice_get c.entries k ≡ Some e → e.instr ≡ Some i → FieldsFit i
entry_fits c x k e i h is ei =
    let at = at-place (code_word_at x.memory) (all_known x) x.pc x.next_pc c.entries c.fetch_pc c.fetch_next k e h.fit is in
    decode_of_fits at.entry.code_is.0 i (at.entry.code_is.2 ∙ ei)
