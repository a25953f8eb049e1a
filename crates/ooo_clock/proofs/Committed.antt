-- What a commit leaves is what its move leaves.
use Rattle.std.proofs.Common.{◌≡◌, ◌+◌, ℕ, Bool, true, false, cond, List, [], ◌∷◌, drop, length, Option, Some, None, refl, sym, ap, ap₂, ◌∙◌, subst, arith}
use Rattle.std.proofs.lemmas.Grind.{common_steps}
use Rattle.std.proofs.lemmas.List.{length-drop}
use Rattle.std.specs.Option.{option_map}
use Rattle.std.specs.Prelude.{not, ◌&&◌, is_some, nat_le, slice_get}
use Rattle.std.specs.VecDeque.{deque_capacity}
use Rattle.mips_ref.proofs.Steps.{exits_there, not_at_exit}
use Rattle.mips_ref.specs.Memory.{code_word_at}
use Rattle.mips_ref.specs.Mips.{Mips}
use Rattle.mips_ref.specs.Step.{at_exit, step_of}
use Rattle.mips_ref.specs.declared.records.Step.{Step}
use Rattle.mips_ref.specs.declared.records.Step.TheVariants.{Went, Exit, Trap}
use Rattle.cache_lru.specs.Contents.{StandsForAddresses, shape_of}
use Rattle.core_window.specs.Beside.{AllFit, Stands}
use Rattle.core_window.specs.Core.{Core, Pair, paired}
use Rattle.core_window.specs.Events.{after_step, attempt, committed, goes, happens, is_open, may_commit, one_if_made, or_same, steps_by}
use Rattle.core_window.specs.Shown.{shown_of}
use Rattle.core_window.specs.View.{all_known}
use Rattle.core_window.specs.declared.records.Entry.{Entry}
use Rattle.core_window.specs.declared.records.EntryView.{EntryView}
use Rattle.core_window.specs.declared.records.Event.TheVariants.{Commit}
use Rattle.ooo_clock.proofs.Seen.{stores-shown, taught-shown}
use Rattle.ooo_clock.specs.Clock.{Clock, Predicts, Speeds}
use Rattle.ooo_clock.specs.Cycle.{pc_if, pcs_of}
use Rattle.ooo_clock.specs.Moves.{Move, commit_due_of, commit_first, commit_move, committed_entry, is_due, learnt_by, makes, stores_by}
use Rattle.ooo_clock.specs.Shows.{AreSound, Made, Shows, clock_of, speeds_of}
use Rattle.ooo_clock.specs.Views.{is_trap, store_waits, stores, taught}
use Rattle.ooo_clock.specs.declared.clock.Parts.{Parts}

-- a commit's move where no store holds it back
first-move : (s : Speeds) (p : Predicts) (q : Clock) (es : List Entry) (o : Option Pair)
    → cond (is_due (commit_due_of q es (is_some o)) q.cycle) (commit_first s p q es o) None
    ≡ cond (store_waits es q.store_free q.cycle) None (commit_first s p q es o)
first-move s p q [] None = refl
first-move s p q [] (Some after) = refl
first-move s p q (e ∷ rest) None = by (store_waits (e ∷ rest) q.store_free q.cycle)
  where
    by : (b : Bool) → ◌≡◌ {A = Option Move} None (cond b None None)
    by true = refl
    by false = refl
first-move s p q (e ∷ rest) (Some after) = by (stores_by e.instr e.status)
  where
    m : Option Move
    m = commit_first s p q (e ∷ rest) (Some after)

    by-free : (t : Bool) → cond t m None ≡ cond (not t) None m
    by-free true = refl
    by-free false = refl

    by : (b : Bool) → cond (nat_le (cond b q.store_free 0) q.cycle) m None ≡ cond (b && not (nat_le q.store_free q.cycle)) None m
    by true = by-free (nat_le q.store_free q.cycle)
    by false = ap (λ t. cond t m None) (zero-le q.cycle)
      where
        zero-le : (n : ℕ) → nat_le 0 n ≡ true
        zero-le n = grind (arith, common_steps)

commit-as : (s : Speeds) (p : Predicts) (q : Clock)
    → commit_move s p q ≡ cond (store_waits q.core.entries q.store_free q.cycle) None (commit_first s p q q.core.entries (attempt q.core q.state Commit))
unfolding commit_move
commit-as s p q = first-move s p q q.core.entries (attempt q.core q.state Commit)

-- what a clock shows of the parts
pub record Words (r : Parts) (x : Mips) (numbers : List ℕ) (q : Clock) : Type 0 where
  pub core : q.core ≡ r.window
  pub state : q.state ≡ x
  pub store_free : q.store_free ≡ r.store_free
  pub cycle : q.cycle ≡ r.cycle
  pub numbers_are : q.numbers ≡ numbers

pub words-of : (r : Parts) (x : Mips) (numbers : List ℕ) (q : Clock) → Shows r x numbers q → Words r x numbers q
unfolding clock_of
words-of r x numbers q h =
    record {
      core = ap (λ (c : Clock). c.core) h.clock;
      state = ap (λ (c : Clock). c.state) h.clock;
      store_free = ap (λ (c : Clock). c.store_free) h.clock;
      cycle = ap (λ (c : Clock). c.cycle) h.clock;
      numbers_are = ap (λ (c : Clock). c.numbers) h.clock;
    }

-- no move
pub made-none : (o : Option Move) (r : Parts) (x : Mips) (numbers : List ℕ) (q : Clock) → o ≡ None → Shows r x numbers q → Made o false r x numbers q
made-none o r x numbers q e h = subst (λ p. Made p false r x numbers q) (sym e) (refl, h)

pub made-some : (o : Option Move) (m : Move) (r : Parts) (x : Mips) (numbers : List ℕ) (q : Clock) → o ≡ Some m → Shows r x numbers m.clock
    → Made o true r x numbers q
made-some o m r x numbers q e h = subst (λ p. Made p true r x numbers q) (sym e) (refl, h)

waits-same : (r : Parts) (x : Mips) (numbers : List ℕ) (q : Clock) → Shows r x numbers q
    → store_waits q.core.entries q.store_free q.cycle ≡ store_waits r.window.entries r.store_free r.cycle
unfolding clock_of
waits-same r x numbers q h = ap (λ (c : Clock). store_waits c.core.entries c.store_free c.cycle) h.clock

pub waiting-made : (s : Speeds) (p : Predicts) (r : Parts) (x : Mips) (numbers : List ℕ) (q : Clock) → Shows r x numbers q
    → store_waits r.window.entries r.store_free r.cycle ≡ true → Made (commit_move s p q) false r x numbers q
waiting-made s p r x numbers q h waits =
    made-none (commit_move s p q) r x numbers q
    (commit-as s p q ∙ ap (λ b. cond b None (commit_first s p q q.core.entries (attempt q.core q.state Commit))) (waits-same r x numbers q h ∙ waits)) h

no-first : (s : Speeds) (p : Predicts) (q : Clock) (es : List Entry) (o : Option Pair) → option_map shown_of (slice_get es 0) ≡ None → commit_first s p q es o ≡ None
no-first s p q [] o e = refl
no-first s p q (f ∷ rest) o e = cc

pub empty-made : (s : Speeds) (p : Predicts) (r : Parts) (x : Mips) (numbers : List ℕ) (q : Clock) → Shows r x numbers q
    → store_waits r.window.entries r.store_free r.cycle ≡ false → option_map shown_of (slice_get r.window.entries 0) ≡ None
    → Made (commit_move s p q) false r x numbers q
empty-made s p r x numbers q h free none =
    let w = words-of r x numbers q h in
    made-none (commit_move s p q) r x numbers q
    (commit-as s p q ∙ ap (λ b. cond b None (commit_first s p q q.core.entries (attempt q.core q.state Commit))) (waits-same r x numbers q h ∙ free)
    ∙ no-first s p q q.core.entries (attempt q.core q.state Commit) (ap (λ (c : Core). option_map shown_of (slice_get c.entries 0)) w.core ∙ none)) h

-- a commit that isn't enabled
pub is-none : {A : Type 0} (o : Option A) → is_some o ≡ false → o ≡ None
is-none None e = refl
is-none (Some a) e = cc

pub some-of : {A : Type 0} (o : Option A) → is_some o ≡ true → (a : A) × (o ≡ Some a)
some-of None e = cc
some-of (Some a) e = (a, refl)

no-attempt : (s : Speeds) (p : Predicts) (q : Clock) (es : List Entry) → commit_first s p q es None ≡ None
no-attempt s p q [] = refl
no-attempt s p q (e ∷ rest) = refl

abbrev pub with_window : Parts → Core → Parts
with_window r c = record r { window = c }

pub same-window : (r : Parts) (c : Core) → c ≡ r.window → with_window r c ≡ r
same-window r c e = ap (with_window r) e

pub record Applied (c : Core) (x : Mips) (made : Bool) (d : Core) (y : Mips) : Type 0 where
  pub enabled : made ≡ is_some (attempt c x Commit)
  pub core : d ≡ (happens (paired c x) Commit).core
  pub state : y ≡ (happens (paired c x) Commit).state
  pub stands : Stands d y

unchanged : (c : Core) (x : Mips) (d : Core) (y : Mips) → Applied c x false d y → (d ≡ c) × (y ≡ x)
unfolding happens
unchanged c x d y a =
    let none = is-none (attempt c x Commit) (sym a.enabled) in
    (a.core ∙ ap (λ o. (or_same (paired c x) o).core) none, a.state ∙ ap (λ o. (or_same (paired c x) o).state) none)

pub refused-made : (s : Speeds) (p : Predicts) (r : Parts) (x : Mips) (numbers : List ℕ) (d : Core) (y : Mips) (q : Clock) → Shows r x numbers q
    → store_waits r.window.entries r.store_free r.cycle ≡ false → Applied r.window x false d y
    → Made (commit_move s p q) false (with_window r d) y numbers q
refused-made s p r x numbers d y q h free a =
    let w = words-of r x numbers q h in
    let none = is-none (attempt r.window x Commit) (sym a.enabled) in
    let same = unchanged r.window x d y a in
    let there : attempt q.core q.state Commit ≡ None = ap₂ (λ c z. attempt c z Commit) w.core w.state ∙ none in
    subst (λ t. Made (commit_move s p q) false t y numbers q) (sym (same-window r d same.0))
    (subst (λ z. Made (commit_move s p q) false r z numbers q) (sym same.1)
    (made-none (commit_move s p q) r x numbers q
    (commit-as s p q ∙ ap (λ b. cond b None (commit_first s p q q.core.entries (attempt q.core q.state Commit))) (waits-same r x numbers q h ∙ free)
    ∙ ap (commit_first s p q q.core.entries) there ∙ no-attempt s p q q.core.entries) h))

pub refused-sound : (r : Parts) (x : Mips) (d : Core) (y : Mips) → AreSound r x → Applied r.window x false d y → AreSound (with_window r d) y
refused-sound r x d y h a =
    let same = unchanged r.window x d y a in
    subst (λ t. AreSound t y) (sym (same-window r d same.0)) (subst (AreSound r) (sym same.1) h)

-- a commit that is made
pub record Stepped (c : Core) (x : Mips) (after : Pair) : Type 0 where
  pub entry : Entry
  pub rest : List Entry
  pub entries : c.entries ≡ entry ∷ rest
  pub is : after ≡ after_step c rest x (step_of x).answer (step_of x).state

some-pair : (p r : Pair) → ◌≡◌ {A = Option Pair} (Some p) (Some r) → p ≡ r
some-pair p r e = cc

stepped : (c : Core) (x : Mips) (after : Pair) → attempt c x Commit ≡ Some after → Stepped c x after
unfolding attempt
stepped c x after e = by c.entries refl e
  where
    if-made : (b : Bool) (p : Pair) → cond b (Some p) None ≡ Some after → after ≡ p
    if-made true p h = sym (some-pair p after h)
    if-made false p h = cc

    by : (es : List Entry) → c.entries ≡ es → committed c x es ≡ Some after → Stepped c x after
    by [] is h = cc
    by (f ∷ rest) is h = record { entry = f; rest = rest; entries = is; is = if-made (is_open c.ending && may_commit f.status f.guess) _ h }

-- the step of an entry never answers Exit, since there is code at its pc
no-exit : (c : Core) (x : Mips) (e : Entry) (rest : List Entry) → Stands c x → c.entries ≡ e ∷ rest → (step_of x).answer ≡ Exit → ⊥
unfolding AllFit
no-exit c x e rest h is exit =
    let fit = subst (λ es. AllFit (code_word_at x.memory) (all_known x) x.pc x.next_pc es c.fetch_pc c.fetch_next) is h.fit in
    let found : code_word_at x.memory x.pc ≡ Some fit.0.code_is.0 = subst (λ a. code_word_at x.memory a ≡ Some fit.0.code_is.0) fit.0.pc_is fit.0.code_is.1 in
    let there : at_exit x ≡ true = exits_there x exit in
    let away : at_exit x ≡ false = not_at_exit x fit.0.code_is.0 h.laid_out found in
    cc

pub record Answers (c : Core) (x : Mips) (after : Pair) : Type 0 where
  pub rob : after.core.rob ≡ c.rob
  pub goes : is_trap after.core.ending ≡ false → ((step_of x).answer ≡ Went) × (length after.core.entries + 1 ≡ length c.entries)
  pub stops : is_trap after.core.ending ≡ true → ((step_of x).answer ≡ Went → ⊥) × (length after.core.entries ≡ length c.entries)

open-ending : (b : Bool) → is_trap (cond b (Some Exit) None) ≡ false
open-ending true = refl
open-ending false = refl

answer-of : (c : Core) (x : Mips) (e : Entry) (rest : List Entry) (y : Mips) (a : Step) → (step_of x).answer ≡ a → ((step_of x).answer ≡ Exit → ⊥)
    → c.entries ≡ e ∷ rest → Answers c x (after_step c rest x a y)
answer-of c x e rest y Went is exit entries =
    record {
      rob = refl;
      goes = λ t. (is, omega (arith, ap length entries));
      stops = λ t. let open_still = open-ending (at_exit y) in cc;
    }
answer-of c x e rest y Exit is exit entries = absurd (exit is)
answer-of c x e rest y (Trap kind pc) is exit entries =
    record { rob = refl; goes = λ t. cc; stops = λ t. ((λ w. cc), refl) }

answers : (c : Core) (x : Mips) (after : Pair) (s : Stepped c x after) → Stands c x → Answers c x after
answers c x after s h =
    subst (Answers c x) (sym s.is)
    (answer-of c x s.entry s.rest (step_of x).state (step_of x).answer refl (no-exit c x s.entry s.rest h s.entries) s.entries)

pub record Committed (r : Parts) (x : Mips) (d : Core) (y : Mips) : Type 0 where
  pub after : Pair
  pub attempted : attempt r.window x Commit ≡ Some after
  pub core : d ≡ after.core
  pub state : y ≡ after.state
  pub step : Stepped r.window x after
  pub answers : Answers r.window x after

pub committed-by : (r : Parts) (x : Mips) (d : Core) (y : Mips) → Stands r.window x → Applied r.window x true d y → Committed r x d y
unfolding happens
committed-by r x d y h a =
    let made = some-of (attempt r.window x Commit) (sym a.enabled) in
    let s = stepped r.window x made.0 made.1 in
    record {
      after = made.0;
      attempted = made.1;
      core = a.core ∙ ap (λ o. (or_same (paired r.window x) o).core) made.1;
      state = a.state ∙ ap (λ o. (or_same (paired r.window x) o).state) made.1;
      step = s;
      answers = answers r.window x made.0 s h;
    }

first-is : (s : Speeds) (p : Predicts) (q : Clock) (es : List Entry) (e : Entry) (rest : List Entry) (o : Option Pair) (after : Pair) → es ≡ e ∷ rest
    → o ≡ Some after → commit_first s p q es o ≡ Some (makes (Commit ∷ []) (committed_entry s p q e (step_of q.state).answer after))
first-is s p q es e rest o after is at = ap₂ (commit_first s p q) is at

move-is : (s : Speeds) (p : Predicts) (r : Parts) (x : Mips) (numbers : List ℕ) (d : Core) (y : Mips) (q : Clock) (h : Shows r x numbers q)
    (k : Committed r x d y) (a : Step) → store_waits r.window.entries r.store_free r.cycle ≡ false → (step_of x).answer ≡ a
    → commit_move s p q ≡ Some (makes (Commit ∷ []) (committed_entry s p q k.step.entry a k.after))
move-is s p r x numbers d y q h k a free is =
    let w = words-of r x numbers q h in
    let there : attempt q.core q.state Commit ≡ Some k.after = ap₂ (λ c z. attempt c z Commit) w.core w.state ∙ k.attempted in
    let answer : (step_of q.state).answer ≡ a = ap (λ z. (step_of z).answer) w.state ∙ is in
    commit-as s p q ∙ ap (λ b. cond b None (commit_first s p q q.core.entries (attempt q.core q.state Commit))) (waits-same r x numbers q h ∙ free)
    ∙ first-is s p q q.core.entries k.step.entry k.step.rest (attempt q.core q.state Commit) k.after
    (ap (λ (c : Core). c.entries) w.core ∙ k.step.entries) there
    ∙ ap (λ b. Some (makes (Commit ∷ []) (committed_entry s p q k.step.entry b k.after))) answer

-- where the step went
pub record Going (p : Predicts) (r n : Parts) (d : Core) (numbers after : List ℕ) (v : EntryView) : Type 0 where
  pub parts : n ≡ record (with_window r d) { times = n.times; store_free = n.store_free }
  pub times : n.times.items ≡ drop 1 r.times.items
  pub capacity : deque_capacity n.times ≡ deque_capacity r.times
  pub store : n.store_free ≡ cond (stores v) (r.cycle + 1 + r.pace.store) r.store_free
  pub numbers_are : after ≡ taught p numbers v

went-clock : (p : Predicts) (r n : Parts) (x : Mips) (d : Core) (y : Mips) (numbers after : List ℕ) (v : EntryView) (k : Committed r x d y)
    (fetched loaded : List ℕ) → Going p r n d numbers after v → shown_of k.step.entry ≡ v
    → committed_entry (speeds_of r) p (clock_of r x fetched loaded numbers) k.step.entry Went k.after ≡ clock_of n y fetched loaded after
unfolding clock_of
went-clock p r n x d y numbers after v k fetched loaded g shown =
    let e = k.step.entry in
    let cycle : r.cycle ≡ n.cycle = ap (λ (t : Parts). t.cycle) (sym g.parts) in
    let fetch_free : r.fetch_free ≡ n.fetch_free = ap (λ (t : Parts). t.fetch_free) (sym g.parts) in
    let load_free : r.load_free ≡ n.load_free = ap (λ (t : Parts). t.load_free) (sym g.parts) in
    let arrived : r.arrived ≡ n.arrived = ap (λ (t : Parts). t.arrived) (sym g.parts) in
    let window : k.after.core ≡ n.window = sym k.core ∙ ap (λ (t : Parts). t.window) (sym g.parts) in
    let store : cond (stores_by e.instr e.status) (r.cycle + 1 + r.pace.store) r.store_free ≡ n.store_free =
    ap (λ b. cond b (r.cycle + 1 + r.pace.store) r.store_free) (sym (stores-shown e) ∙ ap stores shown) ∙ sym g.store in
    let learnt : learnt_by p numbers e.pc e.instr e.status ≡ after = sym (taught-shown p numbers e) ∙ ap (taught p numbers) shown ∙ sym g.numbers_are in
    λ i. record {
      cycle = cycle i;
      fetch_free = fetch_free i;
      load_free = load_free i;
      store_free = store i;
      arrived = arrived i;
      core = window i;
      times = sym g.times i;
      state = sym k.state i;
      fetched = fetched;
      loaded = loaded;
      numbers = learnt i;
    }

same-caches : (p : Predicts) (r n : Parts) (d : Core) (numbers after : List ℕ) (v : EntryView) → Going p r n d numbers after v → (r.icache ≡ n.icache) × (r.dcache ≡ n.dcache)
same-caches p r n d numbers after v g = (ap (λ (t : Parts). t.icache) (sym g.parts), ap (λ (t : Parts). t.dcache) (sym g.parts))

first-shown : (es : List Entry) (e : Entry) (rest : List Entry) (v : EntryView) → es ≡ e ∷ rest → option_map shown_of (slice_get es 0) ≡ Some v → shown_of e ≡ v
first-shown es e rest v is h =
    let at : Some (shown_of e) ≡ Some v = ap (λ l. option_map shown_of (slice_get l 0)) (sym is) ∙ h in cc

pub went-made : (p : Predicts) (r n : Parts) (x : Mips) (numbers after : List ℕ) (d : Core) (y : Mips) (v : EntryView) (q : Clock) → Shows r x numbers q
    → store_waits r.window.entries r.store_free r.cycle ≡ false → option_map shown_of (slice_get r.window.entries 0) ≡ Some v
    → Stands r.window x → Applied r.window x true d y → is_trap d.ending ≡ false → Going p r n d numbers after v
    → Made (commit_move (speeds_of r) p q) true n y after q
went-made p r n x numbers after d y v q h free there stands a goes g =
    let k = committed-by r x d y stands a in
    let shown = first-shown r.window.entries k.step.entry k.step.rest v k.step.entries there in
    let went = (k.answers.goes (ap (λ (c : Core). is_trap c.ending) (sym k.core) ∙ goes)).0 in
    let clock = committed_entry (speeds_of r) p q k.step.entry Went k.after in
    let is : clock ≡ clock_of n y q.fetched q.loaded after =
    ap (λ c. committed_entry (speeds_of r) p c k.step.entry Went k.after) h.clock
    ∙ went-clock p r n x d y numbers after v k q.fetched q.loaded g shown in
    let caches = same-caches p r n d numbers after v g in
    made-some (commit_move (speeds_of r) p q) (makes (Commit ∷ []) clock) n y after q (move-is (speeds_of r) p r x numbers d y q h k Went free went)
    (record {
      clock = is;
      icache = subst (λ m. StandsForAddresses m q.fetched) caches.0 h.icache;
      dcache = subst (λ m. StandsForAddresses m q.loaded) caches.1 h.dcache;
    })

-- where it trapped
stopped-entry : (s : Speeds) (p : Predicts) (q : Clock) (e : Entry) (a : Step) (after : Pair) → (a ≡ Went → ⊥)
    → committed_entry s p q e a after ≡ record q { core = after.core; state = after.state }
stopped-entry s p q e Went after never = absurd (never refl)
stopped-entry s p q e Exit after never = refl
stopped-entry s p q e (Trap kind pc) after never = refl

stopped-clock : (r : Parts) (x : Mips) (d : Core) (y : Mips) (numbers fetched loaded : List ℕ) (after : Pair) → d ≡ after.core → y ≡ after.state
    → record (clock_of r x fetched loaded numbers) { core = after.core; state = after.state } ≡ clock_of (with_window r d) y fetched loaded numbers
unfolding clock_of
stopped-clock r x d y numbers fetched loaded after core state =
    λ i. record {
      cycle = r.cycle;
      fetch_free = r.fetch_free;
      load_free = r.load_free;
      store_free = r.store_free;
      arrived = r.arrived;
      core = sym core i;
      times = r.times.items;
      state = sym state i;
      fetched = fetched;
      loaded = loaded;
      numbers = numbers;
    }

with-pair : Clock → Pair → Clock
with-pair q after = record q { core = after.core; state = after.state }

pub stopped-made : (p : Predicts) (r : Parts) (x : Mips) (numbers : List ℕ) (d : Core) (y : Mips) (q : Clock) → Shows r x numbers q
    → store_waits r.window.entries r.store_free r.cycle ≡ false → Stands r.window x → Applied r.window x true d y → is_trap d.ending ≡ true
    → Made (commit_move (speeds_of r) p q) true (with_window r d) y numbers q
unfolding with-pair
stopped-made p r x numbers d y q h free stands a traps =
    let k = committed-by r x d y stands a in
    let never = (k.answers.stops (ap (λ (c : Core). is_trap c.ending) (sym k.core) ∙ traps)).0 in
    let s = speeds_of r in
    let clock = committed_entry s p q k.step.entry (step_of x).answer k.after in
    let plain : clock ≡ with-pair q k.after = stopped-entry s p q k.step.entry (step_of x).answer k.after never in
    let is : with-pair q k.after ≡ clock_of (with_window r d) y q.fetched q.loaded numbers =
    ap (λ c. with-pair c k.after) h.clock ∙ stopped-clock r x d y numbers q.fetched q.loaded k.after k.core k.state in
    made-some (commit_move s p q) (makes (Commit ∷ []) (with-pair q k.after)) (with_window r d) y numbers q
    (move-is s p r x numbers d y q h k (step_of x).answer free refl ∙ ap (λ c. Some (makes (Commit ∷ []) c)) plain)
    (record { clock = is; icache = h.icache; dcache = h.dcache })

-- the parts stay sound
pub went-sound : (p : Predicts) (r n : Parts) (x : Mips) (numbers after : List ℕ) (d : Core) (y : Mips) (v : EntryView) → AreSound r x
    → Applied r.window x true d y → is_trap d.ending ≡ false → Going p r n d numbers after v → AreSound n y
went-sound p r n x numbers after d y v h a goes g =
    let k = committed-by r x d y h.stands a in
    let len = (k.answers.goes (ap (λ (c : Core). is_trap c.ending) (sym k.core) ∙ goes)).1 in
    let window : n.window ≡ d = ap (λ (t : Parts). t.window) g.parts in
    let pace = ap (λ (t : Parts). t.pace) g.parts in
    let rob : n.window.rob ≡ r.window.rob = ap (λ (c : Core). c.rob) (window ∙ k.core) ∙ k.answers.rob in
    let entries : length n.window.entries ≡ length k.after.core.entries = ap (λ (c : Core). length c.entries) (window ∙ k.core) in
    record {
      stands = subst (λ c. Stands c y) (sym window) a.stands;
      times = omega (arith, h.times, len, entries, ap length g.times, length-drop 1 r.times.items);
      rob = rob ∙ h.rob ∙ ap (λ t. t.rob) (sym pace);
      room = omega (arith, h.room, rob, g.capacity);
      cached = ap (λ t. t.has_icache) pace ∙ h.cached ∙ ap (λ m. is_some (shape_of m)) (same-caches p r n d numbers after v g).0;
      miss = omega (arith, h.miss, ap (λ t. t.miss) pace);
      store = omega (arith, h.store, ap (λ t. t.store) pace);
      mul = omega (arith, h.mul, ap (λ t. t.mul) pace);
      div = omega (arith, h.div, ap (λ t. t.div) pace);
      cycle = omega (arith, h.cycle, ap (λ (t : Parts). t.cycle) g.parts);
    }

pub stopped-sound : (r : Parts) (x : Mips) (d : Core) (y : Mips) → AreSound r x → Applied r.window x true d y → is_trap d.ending ≡ true
    → AreSound (with_window r d) y
stopped-sound r x d y h a traps =
    let k = committed-by r x d y h.stands a in
    let len = (k.answers.stops (ap (λ (c : Core). is_trap c.ending) (sym k.core) ∙ traps)).1 in
    record {
      stands = a.stands;
      times = omega (arith, h.times, len, ap (λ (c : Core). length c.entries) k.core);
      rob = ap (λ (c : Core). c.rob) k.core ∙ k.answers.rob ∙ h.rob;
      room = omega (arith, h.room, ap (λ (c : Core). c.rob) k.core, k.answers.rob);
      cached = h.cached;
      miss = h.miss;
      store = h.store;
      mul = h.mul;
      div = h.div;
      cycle = h.cycle;
    }

-- the pcs of a commit
went-goes : (a : Step) → a ≡ Went → goes a ≡ 1
went-goes a e = ap goes e

stopped-goes : (a : Step) → (a ≡ Went → ⊥) → goes a ≡ 0
stopped-goes Went never = absurd (never refl)
stopped-goes Exit never = refl
stopped-goes (Trap kind pc) never = refl

pub went-pcs : (r n : Parts) (x : Mips) (d : Core) (y : Mips) → Stands r.window x → Applied r.window x true d y → n.window ≡ d
    → is_trap d.ending ≡ false → pcs_of (paired r.window x) (Commit ∷ []) ≡ cond (is_trap n.window.ending) [] (y.pc ∷ [])
unfolding pcs_of
went-pcs r n x d y h a window free =
    let k = committed-by r x d y h a in
    let p = paired r.window x in
    let went = (k.answers.goes (ap (λ (c : Core). is_trap c.ending) (sym k.core) ∙ free)).0 in
    let one : steps_by p Commit ≡ 1 = ap (one_if_made x) k.attempted ∙ went-goes (step_of x).answer went in
    ap (λ i. pc_if i (happens p Commit) []) one ∙ ap (λ (z : Mips). z.pc ∷ []) (sym a.state)
    ∙ ap (λ b. cond b [] (y.pc ∷ [])) (sym (ap (λ (c : Core). is_trap c.ending) window ∙ free))

pub stopped-pcs : (r : Parts) (x : Mips) (d : Core) (y : Mips) → Stands r.window x → Applied r.window x true d y → is_trap d.ending ≡ true
    → pcs_of (paired r.window x) (Commit ∷ []) ≡ cond (is_trap d.ending) [] (y.pc ∷ [])
unfolding pcs_of
stopped-pcs r x d y h a traps =
    let k = committed-by r x d y h a in
    let p = paired r.window x in
    let never = (k.answers.stops (ap (λ (c : Core). is_trap c.ending) (sym k.core) ∙ traps)).0 in
    let none : steps_by p Commit ≡ 0 = ap (one_if_made x) k.attempted ∙ stopped-goes (step_of x).answer never in
    ap (λ i. pc_if i (happens p Commit) []) none ∙ ap (λ b. cond b [] (y.pc ∷ [])) (sym traps)
