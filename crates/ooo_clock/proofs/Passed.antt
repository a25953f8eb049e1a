-- One pass over the entries makes all finishes of a cycle.
use Rattle.std.proofs.Common.{◌≡◌, ◌≤◌, ◌<◌, ◌+◌, ℕ, Bool, true, false, cond, eqb, List, [], ◌∷◌, ◌++◌, length, length-append, set, take, Option, Some, None, refl, sym, ap, ap₂, ◌∙◌, subst, arith}
use Rattle.std.proofs.lemmas.Grind.{common_steps}
use Rattle.std.proofs.lemmas.List.{length-take}
use Rattle.std.proofs.lemmas.Option.{slice_get_within}
use Rattle.std.specs.Prelude.{not, ◌&&◌, is_some, slice_get}
use Rattle.mips_ref.specs.Mips.{Mips}
use Rattle.core_window.specs.Core.{Core, Pair, paired}
use Rattle.core_window.specs.Events.{attempt, beside, cut_after, cut_at_slot, finished, finished_by, slot_to, squashed, squashed_by, to_status, with_status}
use Rattle.core_window.specs.Outcomes.{controls}
use Rattle.core_window.specs.declared.records.Entry.{Entry}
use Rattle.core_window.specs.declared.records.Event.TheVariants.{Finish, Squash}
use Rattle.core_window.specs.declared.records.Outcome.{Outcome}
use Rattle.core_window.specs.declared.records.Outcome.TheVariants.{Trapped, Parts as PartsOf}
use Rattle.core_window.specs.declared.records.Status.{Status}
use Rattle.core_window.specs.declared.records.Status.TheVariants.{Waiting, Running, Done}
use Rattle.ooo_clock.proofs.Committed.{with_window}
use Rattle.ooo_clock.proofs.Finished.{AppliedAs, CutTo, find-first, find-none, made-as, no-finish, some-finish}
use Rattle.ooo_clock.proofs.Places.{place-at, place-before, place-other, place-set, place-take}
use Rattle.ooo_clock.proofs.Repeats.{Goes, all-goes, more-goes, none-goes}
use Rattle.ooo_clock.specs.Clock.{Clock}
use Rattle.ooo_clock.specs.Moves.{finish_at, finish_due_by, finish_due_of, finish_move, is_due}
use Rattle.ooo_clock.specs.Shows.{Made, Shows, over_due}
use Rattle.ooo_clock.specs.declared.clock.Parts.{Parts}
use Rattle.ooo_clock.specs.declared.clock.Times.{Times}

-- what is due to finish can finish
over-enabled-by : (c : Core) (x : Mips) (k cycle : ℕ) (e : Entry) (s : Status) (t : Option Times) → is_due (finish_due_by s t) cycle ≡ true
    → is_some (beside x (to_status c k e (finished_by s))) ≡ true
over-enabled-by c x k cycle e Waiting t h = cc
over-enabled-by c x k cycle e (Running r) t h = refl
over-enabled-by c x k cycle e (Done r) t h = cc

over-enabled-at : (c : Core) (x : Mips) (k cycle : ℕ) (o : Option Entry) (t : Option Times) → is_due (finish_due_of o t) cycle ≡ true
    → is_some (beside x (finished c k o)) ≡ true
over-enabled-at c x k cycle None t h = cc
over-enabled-at c x k cycle (Some e) t h = over-enabled-by c x k cycle e e.status t h

pub over-enabled : (r : Parts) (x : Mips) (k : ℕ) → is_due (over_due r k) r.cycle ≡ true → is_some (attempt r.window x (Finish k)) ≡ true
unfolding attempt
over-enabled r x k h = over-enabled-at r.window x k r.cycle (slice_get r.window.entries k) (slice_get r.times.items k) h

-- a finish changes one entry
pub record FinishedAt (c d : Core) (k : ℕ) : Type 0 where
  pub entry : Entry
  pub outcome : Outcome
  pub there : slice_get c.entries k ≡ Some entry
  pub entries_are : d.entries ≡ set c.entries k (record entry { status = Done outcome })

finished-status : (c : Core) (x : Mips) (k : ℕ) (e : Entry) (s : Status) (after : Pair) → slice_get c.entries k ≡ Some e
    → beside x (to_status c k e (finished_by s)) ≡ Some after → FinishedAt c after.core k
finished-status c x k e Waiting after there h = cc
finished-status c x k e (Running r) after there h =
    let is : paired (with_status c k e (Done r)) x ≡ after = cc in
    subst (λ (p : Pair). FinishedAt c p.core k) is (record { entry = e; outcome = r; there = there; entries_are = refl })
finished-status c x k e (Done r) after there h = cc

finished-place : (c : Core) (x : Mips) (k : ℕ) (o : Option Entry) (after : Pair) → slice_get c.entries k ≡ o → beside x (finished c k o) ≡ Some after
    → FinishedAt c after.core k
finished-place c x k None after there h = cc
finished-place c x k (Some e) after there h = finished-status c x k e e.status after there h

pub finished-at : (c : Core) (x : Mips) (k : ℕ) (after : Pair) → attempt c x (Finish k) ≡ Some after → FinishedAt c after.core k
unfolding attempt
finished-at c x k after h = finished-place c x k (slice_get c.entries k) after refl h

-- a squash keeps the older entries, and changes the guess of this one
pub record SquashedAt (c d : Core) (k : ℕ) : Type 0 where
  pub entry : Entry
  pub guess : ℕ
  pub tail : List Entry
  pub there : slice_get c.entries k ≡ Some entry
  pub entries_are : d.entries ≡ take k c.entries ++ record entry { guess = guess } ∷ tail
  pub short : k + 1 + length tail ≤ length c.entries

cut-slot : (c : Core) (k : ℕ) (e : Entry) (next : ℕ) (s : Entry) (b : Bool) → slice_get c.entries k ≡ Some e → slice_get c.entries (k + 1) ≡ Some s
    → SquashedAt c (cut_at_slot c k e next s b) k
cut-slot c k e next s true there slot =
    record { entry = e; guess = next; tail = []; there = there; entries_are = refl; short = omega (arith, slice_get_within c.entries k e there) }
cut-slot c k e next s false there slot =
    record {
      entry = e;
      guess = next;
      tail = slot_to next s ∷ [];
      there = there;
      entries_are = refl;
      short = omega (arith, slice_get_within c.entries (k + 1) s slot);
    }

cut-place : (c : Core) (k : ℕ) (e : Entry) (next : ℕ) (o : Option Entry) → slice_get c.entries k ≡ Some e → slice_get c.entries (k + 1) ≡ o
    → SquashedAt c (cut_after c k e next o) k
cut-place c k e next None there slot =
    record { entry = e; guess = next; tail = []; there = there; entries_are = refl; short = omega (arith, slice_get_within c.entries k e there) }
cut-place c k e next (Some s) there slot = cut-slot c k e next s (controls s.instr) there slot

squashed-if : (c d : Core) (x : Mips) (k : ℕ) (b : Bool) (after : Pair) → SquashedAt c d k → beside x (cond b (Some d) None) ≡ Some after
    → SquashedAt c after.core k
squashed-if c d x k true after h e = let is : paired d x ≡ after = cc in subst (λ (p : Pair). SquashedAt c p.core k) is h
squashed-if c d x k false after h e = cc

squashed-status : (c : Core) (x : Mips) (k : ℕ) (e : Entry) (s : Status) (after : Pair) → slice_get c.entries k ≡ Some e
    → beside x (squashed_by c k e s) ≡ Some after → SquashedAt c after.core k
squashed-status c x k e Waiting after there h = cc
squashed-status c x k e (Running r) after there h = cc
squashed-status c x k e (Done (Trapped t)) after there h = cc
squashed-status c x k e (Done (PartsOf r)) after there h =
    squashed-if c (cut_after c k e r.next (slice_get c.entries (k + 1))) x k (controls e.instr && not (eqb r.next e.guess)) after
    (cut-place c k e r.next (slice_get c.entries (k + 1)) there refl) h

squashed-place : (c : Core) (x : Mips) (k : ℕ) (o : Option Entry) (after : Pair) → slice_get c.entries k ≡ o → beside x (squashed c k o) ≡ Some after
    → SquashedAt c after.core k
squashed-place c x k None after there h = cc
squashed-place c x k (Some e) after there h = squashed-status c x k e e.status after there h

pub squashed-at : (c : Core) (x : Mips) (k : ℕ) (after : Pair) → attempt c x (Squash k) ≡ Some after → SquashedAt c after.core k
unfolding attempt
squashed-at c x k after h = squashed-place c x k (slice_get c.entries k) after refl h

-- the entries up to the one that finished aren't due
abbrev pub AllPassed : Parts → ℕ → Type 0
AllPassed r k = (j : ℕ) → j < k → is_due (over_due r j) r.cycle ≡ false

pub finished-passed : (r : Parts) (x : Mips) (k : ℕ) (d : Core) (y : Mips) → AppliedAs r.window x (Finish k) true d y → AllPassed r k
    → AllPassed (with_window r d) (k + 1)
finished-passed r x k d y a before j low =
    let m = made-as r.window x (Finish k) d y a in
    let f = finished-at r.window x k m.after m.attempted in
    let entries : d.entries ≡ set r.window.entries k (record f.entry { status = Done f.outcome }) = ap (λ (c : Core). c.entries) m.core ∙ f.entries_are in
    elim (eqb j k) as (λ b. eqb j k ≡ b → is_due (finish_due_of (slice_get d.entries j) (slice_get r.times.items j)) r.cycle ≡ false) [
      | true ↦ λ e.
          let same : j ≡ k = grind (arith, common_steps, e) in
          let there : slice_get d.entries j ≡ Some (record f.entry { status = Done f.outcome }) =
          ap₂ slice_get entries same ∙ place-set r.window.entries k (record f.entry { status = Done f.outcome }) f.entry f.there in
          ap (λ o. is_due (finish_due_of o (slice_get r.times.items j)) r.cycle) there
      | false ↦ λ e.
          let other : j ≡ k → ⊥ = grind (arith, common_steps, e) in
          let there : slice_get d.entries j ≡ slice_get r.window.entries j =
          ap (λ es. slice_get es j) entries ∙ place-other r.window.entries k j (record f.entry { status = Done f.outcome }) other in
          ap (λ o. is_due (finish_due_of o (slice_get r.times.items j)) r.cycle) there ∙ before j (omega (arith, low, other))
    ] refl

due-guess : (o : Option Entry) (e : Entry) (guess : ℕ) (t : Option Times) → o ≡ Some e
    → finish_due_of (Some (record e { guess = guess })) t ≡ finish_due_of o t
due-guess o e guess t is = ap (λ p. finish_due_of p t) (sym is)

pub cut-passed : (r n : Parts) (k : ℕ) (d : Core) (x : Mips) (d' : Core) (y' : Mips) → AppliedAs d x (Squash k) true d' y' → CutTo r n d'
    → AllPassed (with_window r d) (k + 1) → AllPassed n (k + 1)
cut-passed r n k d x d' y' a g before j low =
    let m = made-as d x (Squash k) d' y' a in
    let s = squashed-at d x k m.after m.attempted in
    let entries : d'.entries ≡ take k d.entries ++ record s.entry { guess = s.guess } ∷ s.tail = ap (λ (c : Core). c.entries) m.core ∙ s.entries_are in
    let window : n.window ≡ d' = ap (λ (t : Parts). t.window) g.parts in
    let cycle : n.cycle ≡ r.cycle = ap (λ (t : Parts). t.cycle) g.parts in
    let room : k ≤ length d.entries = omega (arith, s.short) in
    let long : length d'.entries ≡ k + (1 + length s.tail) =
    ap length entries ∙ length-append (take k d.entries) _ ∙ (let few = length-take k d.entries in omega (arith, few, room)) in
    let times : slice_get n.times.items j ≡ slice_get r.times.items j =
    ap (λ ts. slice_get ts j) g.times ∙ place-take (length d'.entries) r.times.items j (omega (arith, low, long)) in
    let there : slice_get n.window.entries j ≡ slice_get (take k d.entries ++ record s.entry { guess = s.guess } ∷ s.tail) j =
    ap (λ (c : Core). slice_get c.entries j) window ∙ ap (λ es. slice_get es j) entries in
    let due : over_due n j ≡ over_due (with_window r d) j =
    elim (eqb j k) as (λ b. eqb j k ≡ b → over_due n j ≡ over_due (with_window r d) j) [
      | true ↦ λ e.
          let same : j ≡ k = grind (arith, common_steps, e) in
          let at = there ∙ ap (λ i. slice_get (take k d.entries ++ record s.entry { guess = s.guess } ∷ s.tail) i) same
          ∙ place-at k d.entries (record s.entry { guess = s.guess }) s.tail room in
          ap₂ finish_due_of at times
          ∙ due-guess (slice_get d.entries j) s.entry s.guess (slice_get r.times.items j) (ap (slice_get d.entries) same ∙ s.there)
      | false ↦ λ e.
          let other : j ≡ k → ⊥ = grind (arith, common_steps, e) in
          ap₂ finish_due_of (there ∙ place-before k d.entries _ j (omega (arith, low, other)) room) times
    ] refl in
    ap₂ is_due due cycle ∙ before j low

pub cut-fewer : (r n : Parts) (k : ℕ) (d : Core) (x : Mips) (d' : Core) (y' : Mips) → AppliedAs d x (Squash k) true d' y' → CutTo r n d'
    → length n.window.entries ≤ length d.entries
cut-fewer r n k d x d' y' a g =
    let m = made-as d x (Squash k) d' y' a in
    let s = squashed-at d x k m.after m.attempted in
    let entries = ap (λ (c : Core). length c.entries) (ap (λ (t : Parts). t.window) g.parts ∙ m.core) ∙ ap length s.entries_are in
    omega (arith, entries, length-append (take k d.entries) (record s.entry { guess = s.guess } ∷ s.tail), length-take k d.entries, s.short)

-- the pass up to an entry
pub record Finishing (k : ℕ) (r : Parts) (x : Mips) (t : Parts) (y : Mips) : Type 0 where
  pub count : ℕ
  pub few : count ≤ k
  pub goes : (numbers : List ℕ) → Goes finish_move count r x numbers t y numbers
  pub passed : AllPassed t k
  pub fewer : length t.window.entries ≤ length r.window.entries

pub none-finishing : (r : Parts) (x : Mips) → Finishing 0 r x r x
none-finishing r x =
    record {
      count = 0;
      few = omega arith;
      goes = λ numbers. none-goes finish_move r x numbers;
      passed = λ j low. absurd (omega (arith, low));
      fewer = omega arith;
    }

passed-more : (t : Parts) (k : ℕ) → AllPassed t k → is_due (over_due t k) t.cycle ≡ false → AllPassed t (k + 1)
passed-more t k before here j low =
    elim (eqb j k) as (λ b. eqb j k ≡ b → is_due (over_due t j) t.cycle ≡ false) [
      | true ↦ λ e. let same : k ≡ j = grind (arith, common_steps, e) in subst (λ i. is_due (over_due t i) t.cycle ≡ false) same here
      | false ↦ λ e. let other : j ≡ k → ⊥ = grind (arith, common_steps, e) in before j (omega (arith, low, other))
    ] refl

pub skip-finishing : (k : ℕ) (r : Parts) (x : Mips) (t : Parts) (y : Mips) → Finishing k r x t y → is_due (over_due t k) t.cycle ≡ false
    → Finishing (k + 1) r x t y
skip-finishing k r x t y h here =
    record { count = h.count; few = omega (arith, h.few); goes = h.goes; passed = passed-more t k h.passed here; fewer = h.fewer }

pub more-finishing : (k : ℕ) (r : Parts) (x : Mips) (t : Parts) (y : Mips) (u : Parts) (z : Mips) → Finishing k r x t y
    → k < length t.window.entries → is_due (over_due t k) t.cycle ≡ true
    → ((numbers : List ℕ) (q : Clock) → Shows t y numbers q → Made (finish_at q (Some k)) true u z numbers q) → (AllPassed t k → AllPassed u (k + 1))
    → length u.window.entries ≤ length t.window.entries → Finishing (k + 1) r x u z
more-finishing k r x t y u z h within due made passed fewer =
    let first = sym (find-first (λ j. is_due (over_due t j) t.cycle) 0 (length t.window.entries) k (omega arith) (omega (arith, within))
    (λ j low high. h.passed j high) due) in
    record {
      count = h.count + 1;
      few = omega (arith, h.few);
      goes = λ numbers. more-goes finish_move h.count r x numbers t y numbers u z numbers (h.goes numbers)
          (λ q shows. some-finish t u y z numbers q k true shows first (made numbers q shows));
      passed = passed h.passed;
      fewer = omega (arith, h.fewer, fewer);
    }

pub all-finishing : (k : ℕ) (r : Parts) (x : Mips) (t : Parts) (y : Mips) → Finishing k r x t y → k ≤ length r.window.entries
    → length t.window.entries ≤ k → (numbers : List ℕ) → Goes finish_move (length r.window.entries) r x numbers t y numbers
all-finishing k r x t y h low end numbers =
    let none = sym (find-none (λ j. is_due (over_due t j) t.cycle) 0 (length t.window.entries) (λ j a b. h.passed j (omega (arith, b, end)))) in
    all-goes finish_move h.count (length r.window.entries) r x numbers t y numbers t y numbers (omega (arith, h.few, low)) (h.goes numbers)
    (λ q shows. no-finish t y numbers q shows none)
