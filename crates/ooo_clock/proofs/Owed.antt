-- What the older entries owe holds an entry back.
use Rattle.std.proofs.Common.{◌≡◌, ◌≤◌, ◌<◌, ◌+◌, ℕ, zero, suc, Bool, true, false, cond, eqb, List, [], ◌∷◌, ◌++◌, length, replicate, set, take, Option, Some, None, refl, sym, ap, ◌∙◌, subst, arith}
use Rattle.std.proofs.lemmas.Grind.{common_steps}
use Rattle.std.proofs.lemmas.List.{reverse-append}
use Rattle.std.proofs.lemmas.List.Folds.{list_all-append}
use Rattle.std.proofs.lemmas.Option.{slice_get_past}
use Rattle.std.specs.List.{find, list_all}
use Rattle.std.specs.Option.{option_map}
use Rattle.std.specs.Prelude.{not, ◌&&◌, ◌||◌, is_some, nat_lt, slice_get}
use Rattle.mips_isa.specs.Names.{reads_of}
use Rattle.mips_isa.specs.declared.instr.Instr.{Instr}
use Rattle.mips_ref.specs.Mips.{Mips, name_value}
use Rattle.core_window.specs.Core.{Core}
use Rattle.core_window.specs.Events.{attempt, beside, issued, issued_by, to_status}
use Rattle.core_window.specs.Operands.{from_writer, given, has_operand, is_done as done_by, is_given, is_name, is_ready, nearest_writer, no_store, operand, passes_loads, seen, stores_done, writes_name, written}
use Rattle.core_window.specs.Outcomes.{is_load, is_store, outcome_in}
use Rattle.core_window.specs.Shown.{shown_of}
use Rattle.core_window.specs.declared.records.Entry.{Entry}
use Rattle.core_window.specs.declared.records.EntryView.{EntryView}
use Rattle.core_window.specs.declared.records.Event.TheVariants.{Issue}
use Rattle.core_window.specs.declared.records.Outcome.TheVariants.{Trapped, Parts as PartsOf}
use Rattle.core_window.specs.declared.records.Status.{Status}
use Rattle.core_window.specs.declared.records.Status.TheVariants.{Waiting, Running, Done}
use Rattle.ooo_clock.proofs.Places.{place-other}
use Rattle.ooo_clock.proofs.Seen.{entry_of, shown-at}
use Rattle.ooo_clock.specs.Moves.{is_due, issue_due_of}
use Rattle.ooo_clock.specs.Owing.{Owes, blocks, marked, past_view}
use Rattle.ooo_clock.specs.Shows.{issue_due_in}
use Rattle.ooo_clock.specs.Views.{has_parts, is_waiting}
use Rattle.ooo_clock.specs.declared.clock.Parts.{Parts}
use Rattle.ooo_clock.specs.declared.clock.Times.{Times}
use Rattle.ooo_clock.specs.declared.pending.Pending.{Pending}

-- before the oldest entry nothing is owed
none-marked : (m n : ℕ) → slice_get (replicate m false) n ≡ Some true → ⊥
none-marked zero n e = cc
none-marked (suc m) zero e = cc
none-marked (suc m) (suc n) e = none-marked m n e

pub owes-none : (p : Pending) (x : Mips) → p.names ≡ replicate 33 false → p.stores ≡ false → Owes p [] x
owes-none p x names stores =
    record {
      names = λ n e. absurd (none-marked 33 n (ap (λ l. slice_get l n) (sym names) ∙ e));
      stores = λ e. cc;
    }

-- past one more entry
writer-step : (b : Bool) (e : Entry) (w : Option Entry) (n : ℕ) (v : Option ℕ)
    → from_writer (cond b (Some e) w) n v ≡ cond b (given e.status n) (from_writer w n v)
writer-step true e w n v = refl
writer-step false e w n v = refl

operand-more : (older : List Entry) (e : Entry) (x : Mips) (n : ℕ)
    → operand (older ++ e ∷ []) x n ≡ cond (writes_name e.instr n) (given e.status n) (operand older x n)
operand-more older e x n =
    ap (λ l. from_writer (find (λ (f : Entry). writes_name f.instr n) l) n (Some (name_value x n))) (reverse-append older (e ∷ []))
    ∙ writer-step (writes_name e.instr n) e (nearest_writer older n) n (Some (name_value x n))

and-last : (a b : Bool) → (a && (b && true)) ≡ (a && b)
and-last true true = refl
and-last true false = refl
and-last false b = refl

stores-more : (older : List Entry) (e : Entry) → stores_done (older ++ e ∷ []) ≡ (stores_done older && passes_loads e)
stores-more older e = list_all-append passes_loads older (e ∷ []) ∙ and-last (stores_done older) (passes_loads e)

-- an entry without parts gives nothing
given-none : (pc npc guess : ℕ) (o : Option Instr) (s : Status) (n : ℕ) → not (has_parts (shown_of (entry_of pc npc guess o s))) ≡ true
    → is_given (given s n) ≡ false
unfolding shown_of
given-none pc npc guess o Waiting n h = refl
given-none pc npc guess o (Running (PartsOf r)) n h = refl
given-none pc npc guess o (Running (Trapped t)) n h = refl
given-none pc npc guess o (Done (PartsOf r)) n h = cc
given-none pc npc guess o (Done (Trapped t)) n h = refl

instr-shown : (pc npc guess : ℕ) (o : Option Instr) (s : Status) → (shown_of (entry_of pc npc guess o s)).instr ≡ o
unfolding shown_of
instr-shown pc npc guess o Waiting = refl
instr-shown pc npc guess o (Running (PartsOf r)) = refl
instr-shown pc npc guess o (Running (Trapped t)) = refl
instr-shown pc npc guess o (Done (PartsOf r)) = refl
instr-shown pc npc guess o (Done (Trapped t)) = refl

-- where a name is marked
set-marked : (b : Bool) (names : List Bool) (m n : ℕ) (owed : Bool) → nat_lt m (length names) ≡ b
    → slice_get (cond b (set names m owed) names) n ≡ Some true → (n ≡ m → owed ≡ true) × ((n ≡ m → ⊥) → slice_get names n ≡ Some true)
set-marked true names m n owed within e = (
  (λ same.
      let low : m < length names = grind (arith, common_steps, within) in
      let at : slice_get (set names m owed) n ≡ Some owed = ap (slice_get (set names m owed)) same ∙ set-same names m owed low in
      cc),
  (λ other. sym (place-other names m n owed other) ∙ e),
)
  where
    set-same : (xs : List Bool) (k : ℕ) (a : Bool) → k < length xs → slice_get (set xs k a) k ≡ Some a
    set-same [] k a low = absurd (omega (arith, low))
    set-same (y ∷ xs) zero a low = refl
    set-same (y ∷ xs) (suc k) a low = set-same xs k a (omega (arith, low))
set-marked false names m n owed within e = (
  (λ same.
      let high : length names ≤ n = let far : length names ≤ m = grind (arith, common_steps, within) in omega (arith, far, same) in
      let none = slice_get_past names n high in
      cc),
  (λ other. e),
)

name-more : (o : Option ℕ) (owed : Bool) (names : List Bool) (n : ℕ) (g v : Option ℕ) → slice_get (marked o owed names) n ≡ Some true
    → (owed ≡ true → is_given g ≡ false) → (slice_get names n ≡ Some true → is_given v ≡ false) → is_given (cond (is_name o n) g v) ≡ false
name-more None owed names n g v e here older = older e
name-more (Some m) owed names n g v e here older =
    let two = set-marked (nat_lt m (length names)) names m n owed refl e in
    elim (eqb m n) as (λ b. eqb m n ≡ b → is_given (cond b g v) ≡ false) [
      | true ↦ λ t. let same : n ≡ m = grind (arith, common_steps, t) in here (two.0 same)
      | false ↦ λ t. let other : n ≡ m → ⊥ = grind (arith, common_steps, t) in older (two.1 other)
    ] refl

stores-blocked : (pc npc guess : ℕ) (o : Option Instr) (s : Status) → blocks (shown_of (entry_of pc npc guess o s)) ≡ true
    → (no_store o || done_by s) ≡ false
unfolding shown_of
stores-blocked pc npc guess None Waiting h = cc
stores-blocked pc npc guess None (Running (PartsOf r)) h = cc
stores-blocked pc npc guess None (Running (Trapped t)) h = cc
stores-blocked pc npc guess None (Done (PartsOf r)) h = cc
stores-blocked pc npc guess None (Done (Trapped t)) h = cc
stores-blocked pc npc guess (Some i) Waiting h = not-done (is_store i) h
  where
    not-done : (b : Bool) → (b && true) ≡ true → (not b || false) ≡ false
    not-done true e = refl
    not-done false e = cc
stores-blocked pc npc guess (Some i) (Running (PartsOf r)) h = not-done (is_store i) h
  where
    not-done : (b : Bool) → (b && true) ≡ true → (not b || false) ≡ false
    not-done true e = refl
    not-done false e = cc
stores-blocked pc npc guess (Some i) (Running (Trapped t)) h = not-done (is_store i) h
  where
    not-done : (b : Bool) → (b && true) ≡ true → (not b || false) ≡ false
    not-done true e = refl
    not-done false e = cc
stores-blocked pc npc guess (Some i) (Done (PartsOf r)) h = not-so (is_store i) h
  where
    not-so : (b : Bool) → (b && false) ≡ true → (not b || true) ≡ false
    not-so true e = cc
    not-so false e = cc
stores-blocked pc npc guess (Some i) (Done (Trapped t)) h = not-so (is_store i) h
  where
    not-so : (b : Bool) → (b && false) ≡ true → (not b || true) ≡ false
    not-so true e = cc
    not-so false e = cc

owed-or : (a b c d : Bool) → (a || b) ≡ true → (a ≡ true → c ≡ false) → (b ≡ true → d ≡ false) → (c && d) ≡ false
owed-or true b c d e f g = ap (λ t. t && d) (f refl)
owed-or false b true d e f g = g e
owed-or false b false d e f g = refl

pub owes-past : (p : Pending) (older : List Entry) (e : Entry) (x : Mips) → Owes p older x → Owes (past_view p (shown_of e)) (older ++ e ∷ []) x
unfolding past_view
owes-past p older e x h =
    let v = shown_of e in
    let instr : v.instr ≡ e.instr = instr-shown e.pc e.npc e.guess e.instr e.status in
    record {
      names = λ n m.
          let at : slice_get (marked (written e.instr) (not (has_parts v)) p.names) n ≡ Some true =
          ap (λ o. slice_get (marked (written o) (not (has_parts v)) p.names) n) (sym instr) ∙ m in
          ap is_given (operand-more older e x n)
          ∙ name-more (written e.instr) (not (has_parts v)) p.names n (given e.status n) (operand older x n) at
          (λ owed. given-none e.pc e.npc e.guess e.instr e.status n owed) (h.names n);
      stores = λ m.
          stores-more older e
          ∙ owed-or p.stores (blocks v) (stores_done older) (passes_loads e) m h.stores (λ b. stores-blocked e.pc e.npc e.guess e.instr e.status b);
    }

-- the entries up to one more
take-place : {A : Type 0} (xs : List A) (k : ℕ) (a : A) → slice_get xs k ≡ Some a → take (suc k) xs ≡ take k xs ++ a ∷ []
take-place [] k a e = cc
take-place (x ∷ xs) zero a e = let same : x ≡ a = some-is x a e in ap (λ (b : _). b ∷ []) same
  where
    some-is : {B : Type 0} (b c : B) → ◌≡◌ {A = Option B} (Some b) (Some c) → b ≡ c
    some-is b c h = cc
take-place (x ∷ xs) (suc k) a e = ap (λ l. x ∷ l) (take-place xs k a e)

pub owes-next : (p q : Pending) (es : List Entry) (k : ℕ) (v : EntryView) (x : Mips) → Owes p (take k es) x
    → option_map shown_of (slice_get es k) ≡ Some v → q ≡ past_view p v → Owes q (take (k + 1) es) x
owes-next p q es k v x h there is =
    let s = shown-at es k v there in
    let more : take (k + 1) es ≡ take k es ++ s.entry ∷ [] = (let one : k + 1 ≡ suc k = omega arith in ap (λ n. take n es) one) ∙ take-place es k s.entry s.there in
    subst (λ l. Owes q l x) (sym more)
    (subst (λ (r : Pending). Owes r (take k es ++ s.entry ∷ []) x) (ap (past_view p) s.shown ∙ sym is) (owes-past p (take k es) s.entry x h))

-- what is owed holds an instruction back
pub owed-name : (p : Pending) (older : List Entry) (x : Mips) (n : ℕ) (owed : Bool) → Owes p older x → slice_get p.names n ≡ Some owed → owed ≡ true
    → has_operand older x (Some n) ≡ false
owed-name p older x n owed h at e = h.names n (at ∙ ap (λ b. Some b) e)

first-held : (a b c : Bool) → a ≡ false → (a && (b && (c && true))) ≡ false
first-held a b c e = ap (λ t. t && (b && (c && true))) e

second-held : (a b c : Bool) → b ≡ false → (a && (b && (c && true))) ≡ false
second-held true b c e = ap (λ t. t && (c && true)) e
second-held false b c e = refl

third-held : (a b c : Bool) → c ≡ false → (a && (b && (c && true))) ≡ false
third-held true true c e = ap (λ t. t && true) e
third-held true false c e = refl
third-held false b c e = refl

and-held : (a b : Bool) → a ≡ false → (a && b) ≡ false
and-held a b e = ap (λ t. t && b) e

pub names-held : (older : List Entry) (x : Mips) (i : Instr) (a b c : Option ℕ) → a ∷ b ∷ c ∷ [] ≡ reads_of i
    → (has_operand older x a && (has_operand older x b && (has_operand older x c && true))) ≡ false → is_ready older x i ≡ false
names-held older x i a b c reads held =
    and-held (list_all (has_operand older x) (reads_of i)) (not (is_load i) || stores_done older)
    (ap (list_all (has_operand older x)) (sym reads) ∙ held)

pub first-owed : (older : List Entry) (x : Mips) (i : Instr) (a b c : Option ℕ) → a ∷ b ∷ c ∷ [] ≡ reads_of i → has_operand older x a ≡ false
    → is_ready older x i ≡ false
first-owed older x i a b c reads e = names-held older x i a b c reads (first-held (has_operand older x a) (has_operand older x b) (has_operand older x c) e)

pub second-owed : (older : List Entry) (x : Mips) (i : Instr) (a b c : Option ℕ) → a ∷ b ∷ c ∷ [] ≡ reads_of i → has_operand older x b ≡ false
    → is_ready older x i ≡ false
second-owed older x i a b c reads e = names-held older x i a b c reads (second-held (has_operand older x a) (has_operand older x b) (has_operand older x c) e)

pub third-owed : (older : List Entry) (x : Mips) (i : Instr) (a b c : Option ℕ) → a ∷ b ∷ c ∷ [] ≡ reads_of i → has_operand older x c ≡ false
    → is_ready older x i ≡ false
third-owed older x i a b c reads e = names-held older x i a b c reads (third-held (has_operand older x a) (has_operand older x b) (has_operand older x c) e)

store-held : (a l s : Bool) → l ≡ true → s ≡ false → (a && (not l || s)) ≡ false
store-held true true s e f = f
store-held true false s e f = cc
store-held false l s e f = refl

pub store-owed : (p : Pending) (older : List Entry) (x : Mips) (i : Instr) → Owes p older x → p.stores ≡ true → is_load i ≡ true → is_ready older x i ≡ false
store-owed p older x i h owed load = store-held (list_all (has_operand older x) (reads_of i)) (is_load i) (stores_done older) load (h.stores owed)

-- so the entry can't be issued
waiting-shown : (pc npc guess : ℕ) (o : Option Instr) (s : Status) → is_waiting (shown_of (entry_of pc npc guess o s)).status ≡ false
    → (older : List Entry) (x : Mips) (e : Entry) → issued_by o s older x e ≡ None
unfolding shown_of
waiting-shown pc npc guess None Waiting h older x e = refl
waiting-shown pc npc guess (Some i) Waiting h older x e = cc
waiting-shown pc npc guess None (Running (PartsOf r)) h older x e = refl
waiting-shown pc npc guess None (Running (Trapped t)) h older x e = refl
waiting-shown pc npc guess (Some i) (Running (PartsOf r)) h older x e = refl
waiting-shown pc npc guess (Some i) (Running (Trapped t)) h older x e = refl
waiting-shown pc npc guess None (Done (PartsOf r)) h older x e = refl
waiting-shown pc npc guess None (Done (Trapped t)) h older x e = refl
waiting-shown pc npc guess (Some i) (Done (PartsOf r)) h older x e = refl
waiting-shown pc npc guess (Some i) (Done (Trapped t)) h older x e = refl

not-issued : (c : Core) (x : Mips) (k : ℕ) (e : Entry) → slice_get c.entries k ≡ Some e → issued_by e.instr e.status (take k c.entries) x e ≡ None
    → is_some (attempt c x (Issue k)) ≡ false
unfolding attempt
not-issued c x k e there none =
    ap (λ o. is_some (beside x (issued c x k o))) there ∙ ap (λ s. is_some (beside x (to_status c k e s))) none

none-by : (o : Option Instr) (s : Status) (older : List Entry) (x : Mips) (e : Entry) → o ≡ None → issued_by o s older x e ≡ None
none-by None s older x e h = refl
none-by (Some i) s older x e h = cc

held-by : (i : Instr) (s : Status) (o : Option Instr) (older : List Entry) (x : Mips) (e : Entry) → o ≡ Some i → is_ready older x i ≡ false
    → issued_by o s older x e ≡ None
held-by i Waiting o older x e is held =
    ap (λ p. issued_by p Waiting older x e) is ∙ ap (λ b. cond b (Some (Running (outcome_in i (seen older x e.pc e.npc)))) None) held
held-by i (Running r) o older x e is held = ap (λ p. issued_by p (Running r) older x e) is
held-by i (Done r) o older x e is held = ap (λ p. issued_by p (Done r) older x e) is

pub none-issued : (c : Core) (x : Mips) (k : ℕ) (v : EntryView) → option_map shown_of (slice_get c.entries k) ≡ Some v → v.instr ≡ None
    → is_some (attempt c x (Issue k)) ≡ false
none-issued c x k v there none =
    let s = shown-at c.entries k v there in
    let e = s.entry in
    let instr : e.instr ≡ None = sym (instr-shown e.pc e.npc e.guess e.instr e.status) ∙ ap (λ (w : EntryView). w.instr) s.shown ∙ none in
    not-issued c x k e s.there (none-by e.instr e.status (take k c.entries) x e instr)

pub held-issued : (c : Core) (x : Mips) (k : ℕ) (v : EntryView) (i : Instr) → option_map shown_of (slice_get c.entries k) ≡ Some v → v.instr ≡ Some i
    → is_ready (take k c.entries) x i ≡ false → is_some (attempt c x (Issue k)) ≡ false
held-issued c x k v i there is held =
    let s = shown-at c.entries k v there in
    let e = s.entry in
    let instr : e.instr ≡ Some i = sym (instr-shown e.pc e.npc e.guess e.instr e.status) ∙ ap (λ (w : EntryView). w.instr) s.shown ∙ is in
    not-issued c x k e s.there (held-by i e.status e.instr (take k c.entries) x e instr held)

pub busy-issued : (c : Core) (x : Mips) (k : ℕ) (v : EntryView) → option_map shown_of (slice_get c.entries k) ≡ Some v → is_waiting v.status ≡ false
    → is_some (attempt c x (Issue k)) ≡ false
busy-issued c x k v there busy =
    let s = shown-at c.entries k v there in
    let e = s.entry in
    not-issued c x k e s.there
    (waiting-shown e.pc e.npc e.guess e.instr e.status (ap (λ (w : EntryView). is_waiting w.status) s.shown ∙ busy) (take k c.entries) x e)

refused-due : (lf cycle : ℕ) (e : Option Entry) (t : Option Times) (b : Bool) → b ≡ false → is_due (issue_due_of lf e t b) cycle ≡ false
refused-due lf cycle None t b h = refl
refused-due lf cycle (Some e) None b h = refl
refused-due lf cycle (Some e) (Some t) true h = cc
refused-due lf cycle (Some e) (Some t) false h = refl

pub not-due : (r : Parts) (x : Mips) (k : ℕ) → is_some (attempt r.window x (Issue k)) ≡ false → is_due (issue_due_in r x k) r.cycle ≡ false
not-due r x k h =
    refused-due r.load_free r.cycle (slice_get r.window.entries k) (slice_get r.times.items k) (is_some (attempt r.window x (Issue k))) h

pub all-more : (due : ℕ → Bool) (k : ℕ) → ((j : ℕ) → j < k → due j ≡ false) → due k ≡ false → (j : ℕ) → j < k + 1 → due j ≡ false
all-more due k before here j low =
    elim (eqb j k) as (λ b. eqb j k ≡ b → due j ≡ false) [
      | true ↦ λ e. let same : k ≡ j = grind (arith, common_steps, e) in subst (λ i. due i ≡ false) same here
      | false ↦ λ e. let other : j ≡ k → ⊥ = grind (arith, common_steps, e) in before j (omega (arith, low, other))
    ] refl
