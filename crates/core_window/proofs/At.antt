-- An entry at a place of a list that fits, what comes before it and what comes after it.
use Rattle.std.proofs.Common.{◌≡◌, ℕ, zero, suc, ◌+◌, List, [], ◌∷◌, ◌++◌, take, drop, set, Option, Some, refl, sym, ap, ◌∙◌, subst, arith}
use Rattle.std.specs.Prelude.{slice_get}
use Rattle.core_window.proofs.Fit.{all-below}
use Rattle.core_window.proofs.Views.{Below}
use Rattle.core_window.specs.Beside.{AllFit, EntryFits, StatusFits}
use Rattle.core_window.specs.View.{View, past, past_by, view_past}
use Rattle.core_window.specs.declared.records.Entry.{Entry}
use Rattle.core_window.specs.declared.records.Status.{Status}

some-entry : (e f : Entry) → ◌≡◌ {A = Option Entry} (Some e) (Some f) → e ≡ f
some-entry e f h = cc

own-place : (code : ℕ → Option ℕ) (v : View) (pc npc : ℕ) (e : Entry) → EntryFits code v pc npc e → EntryFits code v e.pc e.npc e
own-place code v pc npc e h =
    record { pc_is = refl; npc_is = refl; code_is = h.code_is; guess_is = h.guess_is; status_is = h.status_is }

-- the entry at a place fits past the older ones, and the younger ones past it
pub record FitsAt (code : ℕ → Option ℕ) (v : View) (e : Entry) (rest : List Entry) (p q : ℕ) : Type 0 where
  pub entry : EntryFits code v e.pc e.npc e
  pub younger : AllFit code (past v e) e.npc e.guess rest p q

at-head : (code : ℕ → Option ℕ) (v : View) (pc npc : ℕ) (e : Entry) (rest : List Entry) (p q : ℕ) → EntryFits code v pc npc e
    → AllFit code (past v e) npc e.guess rest p q → FitsAt code v e rest p q
at-head code v pc npc e rest p q h k =
    record { entry = own-place code v pc npc e h; younger = subst (λ n. AllFit code (past v e) n e.guess rest p q) (sym h.npc_is) k }

pub at-place : (code : ℕ → Option ℕ) (v : View) (pc npc : ℕ) (es : List Entry) (p q k : ℕ) (e : Entry) → AllFit code v pc npc es p q
    → slice_get es k ≡ Some e → FitsAt code (view_past (take k es) v) e (drop (suc k) es) p q
unfolding AllFit view_past
at-place code v pc npc [] p q k e h is = cc
at-place code v pc npc (f ∷ rest) p q zero e h is =
    subst (λ (g : Entry). FitsAt code v g rest p q) (some-entry f e is) (at-head code v pc npc f rest p q h.0 h.1)
at-place code v pc npc (f ∷ rest) p q (suc k) e h is = at-place code (past v f) npc f.guess rest p q k e h.1 is

-- the older entries stay, before another tail
pub tail-fits : (code : ℕ → Option ℕ) (v : View) (pc npc : ℕ) (es : List Entry) (p q k : ℕ) (e : Entry) (tail : List Entry) (a b : ℕ)
    → AllFit code v pc npc es p q → slice_get es k ≡ Some e → AllFit code (view_past (take k es) v) e.pc e.npc tail a b
    → AllFit code v pc npc (take k es ++ tail) a b
unfolding AllFit view_past
tail-fits code v pc npc [] p q k e tail a b h is t = cc
tail-fits code v pc npc (f ∷ rest) p q zero e tail a b h is t =
    let same : e ≡ f = sym (some-entry f e is) in
    subst (λ n. AllFit code v n npc tail a b) (ap (λ (g : Entry). g.pc) same ∙ h.0.pc_is)
    (subst (λ n. AllFit code v e.pc n tail a b) (ap (λ (g : Entry). g.npc) same ∙ h.0.npc_is) t)
tail-fits code v pc npc (f ∷ rest) p q (suc k) e tail a b h is t = (h.0, tail-fits code (past v f) npc f.guess rest p q k e tail a b h.1 is t)

pub set-at : (es : List Entry) (k : ℕ) (e f : Entry) → slice_get es k ≡ Some e → set es k f ≡ take k es ++ f ∷ drop (suc k) es
set-at [] k e f is = cc
set-at (g ∷ rest) zero e f is = refl
set-at (g ∷ rest) (suc k) e f is = ap (λ l. g ∷ l) (set-at rest k e f is)

-- the entry after it
pub next-at : (es : List Entry) (k : ℕ) (s : Entry) → slice_get es (k + 1) ≡ Some s → drop (suc k) es ≡ s ∷ drop (suc (suc k)) es
next-at es k s is = from es (suc k) (subst (λ n. slice_get es n ≡ Some s) (let one : k + 1 ≡ suc k = omega arith in one) is)
  where
    from : (l : List Entry) (n : ℕ) → slice_get l n ≡ Some s → drop n l ≡ s ∷ drop (suc n) l
    from [] n h = cc
    from (g ∷ rest) zero h = ap (λ (t : Entry). t ∷ rest) (some-entry g s h)
    from (g ∷ rest) (suc n) h = from rest n h

-- an entry goes on to another status, which leaves no less known
pub status-fits : (code : ℕ → Option ℕ) (v : View) (pc npc : ℕ) (es : List Entry) (p q k : ℕ) (e : Entry) (s : Status) → AllFit code v pc npc es p q
    → slice_get es k ≡ Some e → StatusFits e.instr (view_past (take k es) v) e.pc e.npc s
    → Below (past (view_past (take k es) v) e) (past_by e.instr s (view_past (take k es) v)) → AllFit code v pc npc (set es k (record e { status = s })) p q
unfolding AllFit
status-fits code v pc npc es p q k e s h is fit below =
    let at = at-place code v pc npc es p q k e h is in
    let u = view_past (take k es) v in
    let here : EntryFits code u e.pc e.npc (record e { status = s }) =
    record { pc_is = refl; npc_is = refl; code_is = at.entry.code_is; guess_is = at.entry.guess_is; status_is = fit } in
    let after = all-below code (past u e) (past_by e.instr s u) e.npc e.guess (drop (suc k) es) p q below at.younger in
    subst (λ l. AllFit code v pc npc l p q) (sym (set-at es k e (record e { status = s }) is))
    (tail-fits code v pc npc es p q k e (record e { status = s } ∷ drop (suc k) es) p q h is (here, after))
