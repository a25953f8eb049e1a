-- What a shown entry says is what its entry says.
use Rattle.std.proofs.Common.{◌≡◌, ℕ, Bool, true, false, List, [], ◌∷◌, Option, Some, None, refl, sym, ap, ◌∙◌, arith}
use Rattle.std.proofs.lemmas.Grind.{common_steps}
use Rattle.std.specs.Option.{option_map}
use Rattle.std.specs.Prelude.{not, ◌&&◌, nat_le, nat_lt, slice_get}
use Rattle.mips_isa.specs.declared.instr.Instr.{Instr}
use Rattle.core_window.specs.Outcomes.{is_store}
use Rattle.core_window.specs.Shown.{shown_of}
use Rattle.core_window.specs.declared.records.Entry.{Entry}
use Rattle.core_window.specs.declared.records.EntryView.{EntryView}
use Rattle.core_window.specs.declared.records.Outcome.TheVariants.{Trapped, Parts}
use Rattle.core_window.specs.declared.records.Status.{Status}
use Rattle.core_window.specs.declared.records.Status.TheVariants.{Waiting, Running, Done}
use Rattle.ooo_clock.specs.Clock.{Predicts}
use Rattle.ooo_clock.specs.Moves.{learnt_by, stores_by}
use Rattle.ooo_clock.specs.Views.{store_waits, stores, taught}

abbrev pub entry_of : ℕ → ℕ → ℕ → Option Instr → Status → Entry
entry_of pc npc guess o s = record { pc = pc; npc = npc; guess = guess; instr = o; status = s }

and-false : (b : Bool) → (b && false) ≡ false
and-false true = refl
and-false false = refl

and-true : (b : Bool) → (b && true) ≡ b
and-true true = refl
and-true false = refl

stores-at : (pc npc guess : ℕ) (o : Option Instr) (s : Status) → stores (shown_of (entry_of pc npc guess o s)) ≡ stores_by o s
unfolding shown_of
stores-at pc npc guess None Waiting = refl
stores-at pc npc guess None (Running r) = refl
stores-at pc npc guess None (Done r) = refl
stores-at pc npc guess (Some i) Waiting = and-false (is_store i)
stores-at pc npc guess (Some i) (Running (Parts r)) = and-false (is_store i)
stores-at pc npc guess (Some i) (Running (Trapped k)) = and-false (is_store i)
stores-at pc npc guess (Some i) (Done (Parts r)) = and-true (is_store i)
stores-at pc npc guess (Some i) (Done (Trapped k)) = and-false (is_store i)

pub stores-shown : (e : Entry) → stores (shown_of e) ≡ stores_by e.instr e.status
stores-shown e = stores-at e.pc e.npc e.guess e.instr e.status

taught-at : (p : Predicts) (numbers : List ℕ) (pc npc guess : ℕ) (o : Option Instr) (s : Status)
    → taught p numbers (shown_of (entry_of pc npc guess o s)) ≡ learnt_by p numbers pc o s
unfolding shown_of
taught-at p numbers pc npc guess None Waiting = refl
taught-at p numbers pc npc guess None (Running r) = refl
taught-at p numbers pc npc guess None (Done r) = refl
taught-at p numbers pc npc guess (Some i) Waiting = refl
taught-at p numbers pc npc guess (Some i) (Running (Parts r)) = refl
taught-at p numbers pc npc guess (Some i) (Running (Trapped k)) = refl
taught-at p numbers pc npc guess (Some i) (Done (Parts r)) = refl
taught-at p numbers pc npc guess (Some i) (Done (Trapped k)) = refl

pub taught-shown : (p : Predicts) (numbers : List ℕ) (e : Entry) → taught p numbers (shown_of e) ≡ learnt_by p numbers e.pc e.instr e.status
taught-shown p numbers e = taught-at p numbers e.pc e.npc e.guess e.instr e.status

-- the entry that is shown at a place
pub record ShownAt (es : List Entry) (k : ℕ) (v : EntryView) : Type 0 where
  pub entry : Entry
  pub there : slice_get es k ≡ Some entry
  pub shown : shown_of entry ≡ v

pub shown-at : (es : List Entry) (k : ℕ) (v : EntryView) → option_map shown_of (slice_get es k) ≡ Some v → ShownAt es k v
shown-at es k v h = by (slice_get es k) refl h
  where
    by : (o : Option Entry) → slice_get es k ≡ o → option_map shown_of o ≡ Some v → ShownAt es k v
    by None e g = cc
    by (Some f) e g = record { entry = f; there = e; shown = cc }

-- whether the oldest entry waits for a store
waits-test : (b t : Bool) → b ≡ true → not t ≡ (b && not t)
waits-test true t e = refl
waits-test false t e = cc

first-entry : (es : List Entry) (v : EntryView) → option_map shown_of (slice_get es 0) ≡ Some v → (e : Entry) × (rest : List Entry) × (es ≡ e ∷ rest) × (shown_of e ≡ v)
first-entry [] v h = cc
first-entry (e ∷ rest) v h = (e, rest, refl, cc)

pub waits-if : (es : List Entry) (v : EntryView) (free cycle : ℕ) → option_map shown_of (slice_get es 0) ≡ Some v
    → store_waits es free cycle ≡ (stores v && not (nat_le free cycle))
waits-if es v free cycle h =
    let f = first-entry es v h in
    ap (λ l. store_waits l free cycle) f.2 ∙ ap (λ b. b && not (nat_le free cycle)) (sym (stores-shown f.0) ∙ ap stores f.3)

lt-is : (a b : ℕ) → nat_lt a b ≡ not (nat_le b a)
lt-is a b = by (nat_le b a) refl
  where
    by : (t : Bool) → nat_le b a ≡ t → nat_lt a b ≡ not t
    by true e = grind (arith, common_steps, e)
    by false e = grind (arith, common_steps, e)

pub waits-then : (es : List Entry) (v : EntryView) (free cycle : ℕ) (b : Bool) → option_map shown_of (slice_get es 0) ≡ Some v → b ≡ stores v → b ≡ true
    → nat_lt cycle free ≡ store_waits es free cycle
waits-then es v free cycle b h is t =
    lt-is cycle free ∙ waits-test (stores v) (nat_le free cycle) (sym is ∙ t) ∙ sym (waits-if es v free cycle h)

pub waits-else : (es : List Entry) (v : EntryView) (free cycle : ℕ) (b : Bool) → option_map shown_of (slice_get es 0) ≡ Some v → b ≡ stores v → b ≡ false
    → b ≡ store_waits es free cycle
waits-else es v free cycle b h is f =
    f ∙ ap (λ c. c && not (nat_le free cycle)) (sym f ∙ is) ∙ sym (waits-if es v free cycle h)
