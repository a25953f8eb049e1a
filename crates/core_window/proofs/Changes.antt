-- What Issue, Finish and Squash leave fits.
use Rattle.std.proofs.Common.{◌≡◌, ℕ, ◌+◌, Bool, true, false, cond, eqb, [], ◌∷◌, take, drop, Option, Some, None, refl, sym, ap, ◌∙◌, subst}
use Rattle.std.proofs.lemmas.List.{take-append-drop}
use Rattle.std.specs.Prelude.{IfSome, not, ◌&&◌, slice_get}
use Rattle.mips_isa.proofs.Relation.{decode_of_fits}
use Rattle.mips_isa.specs.Words.{word_sum}
use Rattle.mips_isa.specs.declared.instr.Instr.{Instr}
use Rattle.mips_ref.specs.Memory.{code_word_at}
use Rattle.mips_ref.specs.Mips.{Mips}
use Rattle.core_window.proofs.At.{at-place, next-at, tail-fits}
use Rattle.core_window.proofs.Operands.{ready-outcome}
use Rattle.core_window.proofs.Past.{past-learns}
use Rattle.core_window.proofs.SameOutcomes.{outcome-plain}
use Rattle.core_window.proofs.Views.{Below, and-left, below-same, outcome-is, outcome-some}
use Rattle.core_window.specs.Beside.{AllFit, EntryFits, Stands, StatusFits}
use Rattle.core_window.specs.Core.{Core}
use Rattle.core_window.specs.Events.{cut_after, cut_at_slot, cut_to, finished_by, going_to, issued_by, slot_to, squashed_by, status_to}
use Rattle.core_window.specs.Operands.{is_ready, seen}
use Rattle.core_window.specs.Outcomes.{controls, outcome_in, placed}
use Rattle.core_window.specs.View.{View, all_known, known_outcome, past, past_by, view_past}
use Rattle.core_window.specs.declared.records.Entry.{Entry}
use Rattle.core_window.specs.declared.records.Outcome.{Outcome}
use Rattle.core_window.specs.declared.records.Outcome.TheVariants.{Trapped, Parts}
use Rattle.core_window.specs.declared.records.Status.{Status}
use Rattle.core_window.specs.declared.records.Status.TheVariants.{Waiting, Running, Done}

-- another status of an entry fits past a view, and no less is known past it
pub record GoesOn (v : View) (e : Entry) (s : Status) : Type 0 where
  pub fits : StatusFits e.instr v e.pc e.npc s
  pub below : Below (past v e) (past_by e.instr s v)

-- Issue
run-past : (o : Option Instr) (r : Outcome) (v : View) → past_by o Waiting v ≡ past_by o (Running r) v
unfolding past_by
run-past None r v = refl
run-past (Some i) r v = refl

runs : (v : View) (e : Entry) (i : Instr) (r : Outcome) → e.instr ≡ Some i → e.status ≡ Waiting → known_outcome v i e.pc e.npc ≡ Some r
    → GoesOn v e (Running r)
unfolding StatusFits
runs v e i r ei es out =
    let is : past v e ≡ past_by e.instr (Running r) v = ap (λ s. past_by e.instr s v) es ∙ run-past e.instr r v in
    record {
      fits = subst (λ o. StatusFits o v e.pc e.npc (Running r)) (sym ei) out;
      below = subst (λ u. Below (past v e) u) is (below-same (past v e));
    }

if-ready : (b : Bool) (s : Status) (P : Status → Type 0) → (b ≡ true → P s) → IfSome (cond b (Some s) None) P
if-ready true s P h = h refl
if-ready false s P h = tt

pub issue-goes-on : (c : Core) (x : Mips) (k : ℕ) (e : Entry) (o : Option Instr) (s : Status) → Stands c x → slice_get c.entries k ≡ Some e
    → e.instr ≡ o → e.status ≡ s → IfSome (issued_by o s (take k c.entries) x e) (GoesOn (view_past (take k c.entries) (all_known x)) e)
issue-goes-on c x k e None s h is ei es = tt
issue-goes-on c x k e (Some i) Waiting h is ei es =
    let older = take k c.entries in
    let at = at-place (code_word_at x.memory) (all_known x) x.pc x.next_pc c.entries c.fetch_pc c.fetch_next k e h.fit is in
    let fits = decode_of_fits at.entry.code_is.0 i (at.entry.code_is.2 ∙ ei) in
    if-ready (is_ready older x i) (Running (outcome_in i (seen older x e.pc e.npc))) (GoesOn (view_past older (all_known x)) e)
    (λ ready. runs (view_past older (all_known x)) e i (outcome_in i (seen older x e.pc e.npc)) ei es
    (ready-outcome c x older (drop k c.entries) i e.pc e.npc h (sym (take-append-drop k c.entries)) fits ready))
issue-goes-on c x k e (Some i) (Running r) h is ei es = tt
issue-goes-on c x k e (Some i) (Done r) h is ei es = tt

-- Finish
done-fits : (o : Option Instr) (v : View) (pc npc : ℕ) (r : Outcome) → StatusFits o v pc npc (Running r) → StatusFits o v pc npc (Done r)
unfolding StatusFits
done-fits None v pc npc r h = cc
done-fits (Some i) v pc npc r h = h

done-below : (o : Option Instr) (v : View) (r : Outcome) → Below (past_by o (Running r) v) (past_by o (Done r) v)
unfolding past_by
done-below None v r = below-same v
done-below (Some i) v r = past-learns i r v

pub finish-goes-on : (c : Core) (x : Mips) (k : ℕ) (e : Entry) (s : Status) → Stands c x → slice_get c.entries k ≡ Some e → e.status ≡ s
    → IfSome (finished_by s) (GoesOn (view_past (take k c.entries) (all_known x)) e)
finish-goes-on c x k e Waiting h is es = tt
finish-goes-on c x k e (Running r) h is es =
    let v = view_past (take k c.entries) (all_known x) in
    let at = at-place (code_word_at x.memory) (all_known x) x.pc x.next_pc c.entries c.fetch_pc c.fetch_next k e h.fit is in
    let had : StatusFits e.instr v e.pc e.npc (Running r) = subst (λ s. StatusFits e.instr v e.pc e.npc s) es at.entry.status_is in
    let was : past_by e.instr (Running r) v ≡ past v e = sym (ap (λ s. past_by e.instr s v) es) in
    record {
      fits = done-fits e.instr v e.pc e.npc r had;
      below = subst (λ u. Below u (past_by e.instr (Done r) v)) was (done-below e.instr v r);
    }
finish-goes-on c x k e (Done r) h is es = tt

-- Squash: an entry that is control may go anywhere
guessed : (code : ℕ → Option ℕ) (v : View) (pc npc : ℕ) (e : Entry) (next : ℕ) → controls e.instr ≡ true → EntryFits code v pc npc e
    → EntryFits code v pc npc (record e { guess = next })
guessed code v pc npc e next c h =
    record { pc_is = h.pc_is; npc_is = h.npc_is; code_is = h.code_is; guess_is = λ f. cc; status_is = h.status_is }

-- one that isn't comes to the same before another next address
outcome-to : (i : Instr) (v : View) (pc npc next : ℕ) (r : Outcome) → controls (Some i) ≡ false → known_outcome v i pc npc ≡ Some r
    → known_outcome v i pc next ≡ Some (going_to (word_sum next 4) r)
outcome-to i v pc npc next r plain h =
    let is = outcome-is v i pc npc r h in
    outcome-some v i pc next (going_to (word_sum next 4) r) is.0
    (outcome-plain i (placed v.state pc npc) npc next plain ∙ ap (going_to (word_sum next 4)) is.1)

status-to-fits : (o : Option Instr) (s : Status) (v : View) (pc npc next : ℕ) → controls o ≡ false → StatusFits o v pc npc s
    → StatusFits o v pc next (status_to (word_sum next 4) s)
unfolding StatusFits
status-to-fits None s v pc npc next plain h = ap (status_to (word_sum next 4)) h
status-to-fits (Some i) Waiting v pc npc next plain h = tt
status-to-fits (Some i) (Running r) v pc npc next plain h = outcome-to i v pc npc next r plain h
status-to-fits (Some i) (Done r) v pc npc next plain h = outcome-to i v pc npc next r plain h

slot-fits : (code : ℕ → Option ℕ) (v : View) (pc npc next : ℕ) (s : Entry) → controls s.instr ≡ false → EntryFits code v pc npc s
    → EntryFits code v pc next (slot_to next s)
slot-fits code v pc npc next s plain h =
    record {
      pc_is = h.pc_is;
      npc_is = refl;
      code_is = h.code_is;
      guess_is = λ f. refl;
      status_is = status-to-fits s.instr s.status v s.pc s.npc next plain h.status_is;
    }

-- a cut window fits
abbrev pub CoreFits : (ℕ → Option ℕ) → View → ℕ → ℕ → Core → Type 0
CoreFits code v pc npc c = AllFit code v pc npc c.entries c.fetch_pc c.fetch_next

alone-fits : (code : ℕ → Option ℕ) (v : View) (pc npc : ℕ) (c : Core) (k : ℕ) (e : Entry) (next : ℕ) → CoreFits code v pc npc c
    → slice_get c.entries k ≡ Some e → controls e.instr ≡ true → CoreFits code v pc npc (cut_to c k (record e { guess = next } ∷ []) e.npc next)
unfolding AllFit
alone-fits code v pc npc c k e next h is con =
    let u = view_past (take k c.entries) v in
    let at = at-place code v pc npc c.entries c.fetch_pc c.fetch_next k e h is in
    tail-fits code v pc npc c.entries c.fetch_pc c.fetch_next k e (record e { guess = next } ∷ []) e.npc next h is
    (guessed code u e.pc e.npc e next con at.entry, (refl, refl))

slot-stays : (code : ℕ → Option ℕ) (v : View) (pc npc : ℕ) (c : Core) (k : ℕ) (e : Entry) (next : ℕ) (s : Entry) → CoreFits code v pc npc c
    → slice_get c.entries k ≡ Some e → slice_get c.entries (k + 1) ≡ Some s → controls e.instr ≡ true → controls s.instr ≡ false
    → CoreFits code v pc npc (cut_to c k (record e { guess = next } ∷ slot_to next s ∷ []) next (word_sum next 4))
unfolding AllFit
slot-stays code v pc npc c k e next s h is then con plain =
    let u = view_past (take k c.entries) v in
    let at = at-place code v pc npc c.entries c.fetch_pc c.fetch_next k e h is in
    let after = subst (λ l. AllFit code (past u e) e.npc e.guess l c.fetch_pc c.fetch_next) (next-at c.entries k s then) at.younger in
    let tail : AllFit code u e.pc e.npc (record e { guess = next } ∷ slot_to next s ∷ []) next (word_sum next 4) =
    (guessed code u e.pc e.npc e next con at.entry, (slot-fits code (past u e) e.npc e.guess next s plain after.0, (refl, refl))) in
    tail-fits code v pc npc c.entries c.fetch_pc c.fetch_next k e (record e { guess = next } ∷ slot_to next s ∷ []) next (word_sum next 4) h is tail

at-slot-fits : (code : ℕ → Option ℕ) (v : View) (pc npc : ℕ) (c : Core) (k : ℕ) (e : Entry) (next : ℕ) (s : Entry) (b : Bool) → CoreFits code v pc npc c
    → slice_get c.entries k ≡ Some e → slice_get c.entries (k + 1) ≡ Some s → controls e.instr ≡ true → controls s.instr ≡ b
    → CoreFits code v pc npc (cut_at_slot c k e next s b)
at-slot-fits code v pc npc c k e next s true h is then con kind = alone-fits code v pc npc c k e next h is con
at-slot-fits code v pc npc c k e next s false h is then con kind = slot-stays code v pc npc c k e next s h is then con kind

cut-fits : (code : ℕ → Option ℕ) (v : View) (pc npc : ℕ) (c : Core) (k : ℕ) (e : Entry) (next : ℕ) (o : Option Entry) → CoreFits code v pc npc c
    → slice_get c.entries k ≡ Some e → slice_get c.entries (k + 1) ≡ o → controls e.instr ≡ true → CoreFits code v pc npc (cut_after c k e next o)
cut-fits code v pc npc c k e next None h is then con = alone-fits code v pc npc c k e next h is con
cut-fits code v pc npc c k e next (Some s) h is then con = at-slot-fits code v pc npc c k e next s (controls s.instr) h is then con refl

if-cut : (b : Bool) (c : Core) (P : Core → Type 0) → (b ≡ true → P c) → IfSome (cond b (Some c) None) P
if-cut true c P h = h refl
if-cut false c P h = tt

pub squash-fits : (code : ℕ → Option ℕ) (v : View) (pc npc : ℕ) (c : Core) (k : ℕ) (e : Entry) (s : Status) → CoreFits code v pc npc c
    → slice_get c.entries k ≡ Some e → IfSome (squashed_by c k e s) (CoreFits code v pc npc)
squash-fits code v pc npc c k e Waiting h is = tt
squash-fits code v pc npc c k e (Running r) h is = tt
squash-fits code v pc npc c k e (Done (Trapped t)) h is = tt
squash-fits code v pc npc c k e (Done (Parts r)) h is =
    if-cut (controls e.instr && not (eqb r.next e.guess)) (cut_after c k e r.next (slice_get c.entries (k + 1))) (CoreFits code v pc npc)
    (λ b. cut-fits code v pc npc c k e r.next (slice_get c.entries (k + 1)) h is refl (and-left (controls e.instr) _ b))
