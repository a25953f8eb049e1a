-- What a finish leaves, and a squash after it, is what their move leaves.
use Rattle.std.proofs.Common.{◌≡◌, ◌≤◌, ◌<◌, ◌+◌, ℕ, zero, suc, Bool, true, false, cond, eqb, List, [], ◌∷◌, length, length-set, take, Option, Some, None, refl, sym, ap, ap₂, ◌∙◌, subst, arith}
use Rattle.std.proofs.lemmas.Grind.{common_steps}
use Rattle.std.proofs.lemmas.List.{length-take}
use Rattle.std.specs.List.{find, range_with_len}
use Rattle.std.specs.Option.{option_map}
use Rattle.std.specs.Prelude.{not, ◌&&◌, is_some, nat_le, slice_get}
use Rattle.std.specs.VecDeque.{deque_capacity}
use Rattle.mips_ref.specs.Mips.{Mips}
use Rattle.cache_lru.specs.Contents.{StandsForAddresses, shape_of}
use Rattle.core_window.specs.Beside.{Stands}
use Rattle.core_window.specs.Core.{Core, Pair, paired}
use Rattle.core_window.specs.Events.{attempt, beside, cut_after, cut_at_slot, finished, finished_by, happens, or_same, squashed, squashed_by, to_status}
use Rattle.core_window.specs.Outcomes.{controls}
use Rattle.core_window.specs.Shown.{shown_of}
use Rattle.core_window.specs.declared.records.Entry.{Entry}
use Rattle.core_window.specs.declared.records.EntryView.{EntryView}
use Rattle.core_window.specs.declared.records.Event.{Event}
use Rattle.core_window.specs.declared.records.Event.TheVariants.{Finish, Squash}
use Rattle.core_window.specs.declared.records.Outcome.TheVariants.{Trapped, Parts as PartsOf}
use Rattle.core_window.specs.declared.records.Status.{Status}
use Rattle.core_window.specs.declared.records.Status.TheVariants.{Waiting, Running, Done}
use Rattle.ooo_clock.proofs.Committed.{is-none, made-none, made-some, same-window, some-of, with_window}
use Rattle.ooo_clock.proofs.Performs.{finish-state, squash-state}
use Rattle.ooo_clock.proofs.Seen.{shown-at}
use Rattle.ooo_clock.specs.Clock.{Clock}
use Rattle.ooo_clock.specs.Moves.{finish_at, finish_due, finish_due_by, finish_due_of, finish_entry, finish_move, first_due, is_due, makes, squashed_too}
use Rattle.ooo_clock.specs.Shows.{AreSound, Made, Shows, clock_of, over_due}
use Rattle.ooo_clock.specs.Views.{is_running}
use Rattle.ooo_clock.specs.declared.clock.Parts.{Parts}
use Rattle.ooo_clock.specs.declared.clock.Times.{Times}

-- what a call of `apply` leaves
pub record AppliedAs (c : Core) (x : Mips) (e : Event) (made : Bool) (d : Core) (y : Mips) : Type 0 where
  pub enabled : made ≡ is_some (attempt c x e)
  pub core : d ≡ (happens (paired c x) e).core
  pub state : y ≡ (happens (paired c x) e).state
  pub stands : Stands d y

pub unchanged-as : (c : Core) (x : Mips) (e : Event) (d : Core) (y : Mips) → AppliedAs c x e false d y → (attempt c x e ≡ None) × (d ≡ c) × (y ≡ x)
unfolding happens
unchanged-as c x e d y a =
    let none = is-none (attempt c x e) (sym a.enabled) in
    (none, a.core ∙ ap (λ o. (or_same (paired c x) o).core) none, a.state ∙ ap (λ o. (or_same (paired c x) o).state) none)

pub record MadeAs (c : Core) (x : Mips) (e : Event) (d : Core) (y : Mips) : Type 0 where
  pub after : Pair
  pub attempted : attempt c x e ≡ Some after
  pub core : d ≡ after.core
  pub state : y ≡ after.state

pub made-as : (c : Core) (x : Mips) (e : Event) (d : Core) (y : Mips) → AppliedAs c x e true d y → MadeAs c x e d y
unfolding happens
made-as c x e d y a =
    let made = some-of (attempt c x e) (sym a.enabled) in
    record {
      after = made.0;
      attempted = made.1;
      core = a.core ∙ ap (λ o. (or_same (paired c x) o).core) made.1;
      state = a.state ∙ ap (λ o. (or_same (paired c x) o).state) made.1;
    }

-- how many entries there are after it
pub record Kept (c d : Core) : Type 0 where
  pub rob : d.rob ≡ c.rob
  pub entries : length d.entries ≡ length c.entries

pub status-kept : (c : Core) (x : Mips) (k : ℕ) (e : Entry) (o : Option Status) (after : Pair) → beside x (to_status c k e o) ≡ Some after → Kept c after.core
status-kept c x k e None after h = cc
status-kept c x k e (Some s) after h =
    let is : paired (record c { entries = _ }) x ≡ after = some-pair _ after h in
    subst (λ (p : Pair). Kept c p.core) is (record { rob = refl; entries = length-set c.entries k (record e { status = s }) })
  where
    some-pair : (p r : Pair) → ◌≡◌ {A = Option Pair} (Some p) (Some r) → p ≡ r
    some-pair p r g = cc

finished-kept : (c : Core) (x : Mips) (k : ℕ) (o : Option Entry) (after : Pair) → beside x (finished c k o) ≡ Some after → Kept c after.core
finished-kept c x k None after h = cc
finished-kept c x k (Some e) after h = status-kept c x k e (finished_by e.status) after h

pub finish-kept : (c : Core) (x : Mips) (k : ℕ) (after : Pair) → attempt c x (Finish k) ≡ Some after → Kept c after.core
unfolding attempt
finish-kept c x k after h = finished-kept c x k (slice_get c.entries k) after h

pub finish-fewer : (c : Core) (x : Mips) (k : ℕ) (d : Core) (y : Mips) → AppliedAs c x (Finish k) true d y → length d.entries ≤ length c.entries
finish-fewer c x k d y a =
    let m = made-as c x (Finish k) d y a in
    let kept = finish-kept c x k m.after m.attempted in
    omega (arith, kept.entries, ap (λ (e : Core). length e.entries) m.core)

-- a squash keeps the room
slot-rob : (c : Core) (k : ℕ) (e : Entry) (next : ℕ) (s : Entry) (b : Bool) → (cut_at_slot c k e next s b).rob ≡ c.rob
slot-rob c k e next s true = refl
slot-rob c k e next s false = refl

cut-rob : (c : Core) (k : ℕ) (e : Entry) (next : ℕ) (o : Option Entry) → (cut_after c k e next o).rob ≡ c.rob
cut-rob c k e next None = refl
cut-rob c k e next (Some s) = slot-rob c k e next s (controls s.instr)

some-rob : (c d : Core) (x : Mips) (b : Bool) (after : Pair) → d.rob ≡ c.rob → beside x (cond b (Some d) None) ≡ Some after → after.core.rob ≡ c.rob
some-rob c d x true after e h =
    let is : paired d x ≡ after = cc in ap (λ (p : Pair). p.core.rob) (sym is) ∙ e
some-rob c d x false after e h = cc

squashed-rob : (c : Core) (x : Mips) (k : ℕ) (e : Entry) (s : Status) (after : Pair) → beside x (squashed_by c k e s) ≡ Some after → after.core.rob ≡ c.rob
squashed-rob c x k e Waiting after h = cc
squashed-rob c x k e (Running r) after h = cc
squashed-rob c x k e (Done (Trapped t)) after h = cc
squashed-rob c x k e (Done (PartsOf r)) after h =
    some-rob c (cut_after c k e r.next (slice_get c.entries (k + 1))) x (controls e.instr && not (eqb r.next e.guess)) after
    (cut-rob c k e r.next (slice_get c.entries (k + 1))) h

squash-rob-at : (c : Core) (x : Mips) (k : ℕ) (o : Option Entry) (after : Pair) → beside x (squashed c k o) ≡ Some after → after.core.rob ≡ c.rob
squash-rob-at c x k None after h = cc
squash-rob-at c x k (Some e) after h = squashed-rob c x k e e.status after h

pub squash-rob : (c : Core) (x : Mips) (k : ℕ) (after : Pair) → attempt c x (Squash k) ≡ Some after → after.core.rob ≡ c.rob
unfolding attempt
squash-rob c x k after h = squash-rob-at c x k (slice_get c.entries k) after h

-- the first place that passes
pub find-none : (p : ℕ → Bool) (a n : ℕ) → ((j : ℕ) → a ≤ j → j < a + n → p j ≡ false) → find p (range_with_len a n) ≡ None
find-none p a zero h = refl
find-none p a (suc n) h =
    ap (λ b. cond b (Some a) (find p (range_with_len (a + 1) n))) (h a (omega arith) (omega arith))
    ∙ find-none p (a + 1) n (λ j low high. h j (omega (arith, low)) (omega (arith, high)))

here : (p : ℕ → Bool) (a n k : ℕ) → eqb a k ≡ true → p k ≡ true → cond (p a) (Some a) (find p (range_with_len (a + 1) n)) ≡ Some k
here p a n k e t =
    let same : a ≡ k = grind (arith, common_steps, e) in
    subst (λ m. cond (p m) (Some m) (find p (range_with_len (a + 1) n)) ≡ Some k) (sym same)
    (ap (λ b. cond b (Some k) (find p (range_with_len (a + 1) n))) t)

there : (p : ℕ → Bool) (a n k : ℕ) → p a ≡ false → find p (range_with_len (a + 1) n) ≡ Some k
    → cond (p a) (Some a) (find p (range_with_len (a + 1) n)) ≡ Some k
there p a n k f rest = ap (λ b. cond b (Some a) (find p (range_with_len (a + 1) n))) f ∙ rest

apart : (a k : ℕ) → eqb a k ≡ false → a ≤ k → a + 1 ≤ k
apart a k e low = let other : a ≡ k → ⊥ = grind (arith, common_steps, e) in omega (arith, low, other)

pub find-first : (p : ℕ → Bool) (a n k : ℕ) → a ≤ k → k < a + n → ((j : ℕ) → a ≤ j → j < k → p j ≡ false) → p k ≡ true
    → find p (range_with_len a n) ≡ Some k
find-first p a zero k low high h t = absurd (omega (arith, low, high))
find-first p a (suc n) k low high h t =
    elim (eqb a k) as (λ b. eqb a k ≡ b → cond (p a) (Some a) (find p (range_with_len (a + 1) n)) ≡ Some k) [
      | true ↦ λ e. here p a n k e t
      | false ↦ λ e. there p a n k (h a (omega arith) (omega (arith, apart a k e low))) (find-first p (a + 1) n k (apart a k e low) (omega (arith, high)) (λ j l u. h j (omega (arith, l)) u) t)
    ] refl

-- whether an entry is at its end, by what is shown of it
over-by : (pc npc guess : ℕ) (s : Status) (t : Times) (cycle : ℕ) (e : Entry) → e.status ≡ s
    → is_due (finish_due_by s (Some t)) cycle ≡ (is_running (shown_of (record e { status = s })).status && nat_le t.ends cycle)
unfolding shown_of
over-by pc npc guess Waiting t cycle e is = refl
over-by pc npc guess (Running (PartsOf r)) t cycle e is = refl
over-by pc npc guess (Running (Trapped k)) t cycle e is = refl
over-by pc npc guess (Done (PartsOf r)) t cycle e is = refl
over-by pc npc guess (Done (Trapped k)) t cycle e is = refl

pub over-some : (r : Parts) (k : ℕ) (v : EntryView) (t : Times) (b : Bool) → option_map shown_of (slice_get r.window.entries k) ≡ Some v
    → slice_get r.times.items k ≡ Some t → b ≡ is_running v.status → (b && nat_le t.ends r.cycle) ≡ is_due (over_due r k) r.cycle
over-some r k v t b there at running =
    let s = shown-at r.window.entries k v there in
    let e = s.entry in
    let due : over_due r k ≡ finish_due_by e.status (Some t) = ap₂ finish_due_of s.there at in
    ap (λ c. c && nat_le t.ends r.cycle) (running ∙ ap (λ (u : EntryView). is_running u.status) (sym s.shown))
    ∙ sym (over-by e.pc e.npc e.guess e.status t r.cycle e refl) ∙ ap (λ o. is_due o r.cycle) (sym due)

no-times : (o : Option Entry) (cycle : ℕ) → is_due (finish_due_of o None) cycle ≡ false
no-times None cycle = refl
no-times (Some e) cycle = by e.status
  where
    by : (s : Status) → is_due (finish_due_by s None) cycle ≡ false
    by Waiting = refl
    by (Running r) = refl
    by (Done r) = refl

pub over-none : (r : Parts) (k : ℕ) → slice_get r.times.items k ≡ None → false ≡ is_due (over_due r k) r.cycle
over-none r k at =
    sym (no-times (slice_get r.window.entries k) r.cycle) ∙ ap (λ t. is_due (finish_due_of (slice_get r.window.entries k) t) r.cycle) (sym at)

-- the move
pub finish-move-is : (r : Parts) (x : Mips) (numbers : List ℕ) (q : Clock) (o : Option ℕ) → Shows r x numbers q
    → o ≡ first_due (over_due r) (length r.window.entries) r.cycle → finish_move q ≡ finish_at q o
unfolding finish_move clock_of
finish-move-is r x numbers q o h is =
    ap (finish_at q) (ap (λ (c : Clock). first_due (finish_due c) (length c.core.entries) c.cycle) h.clock ∙ sym is)

pub no-finish : (r : Parts) (x : Mips) (numbers : List ℕ) (q : Clock) → Shows r x numbers q
    → None ≡ first_due (over_due r) (length r.window.entries) r.cycle → Made (finish_move q) false r x numbers q
no-finish r x numbers q h is = made-none (finish_move q) r x numbers q (finish-move-is r x numbers q None h is) h

pub some-finish : (r n : Parts) (x y : Mips) (numbers : List ℕ) (q : Clock) (k : ℕ) (made : Bool) → Shows r x numbers q
    → Some k ≡ first_due (over_due r) (length r.window.entries) r.cycle → Made (finish_at q (Some k)) made n y numbers q
    → Made (finish_move q) made n y numbers q
some-finish r n x y numbers q k made h is m = subst (λ o. Made o made n y numbers q) (sym (finish-move-is r x numbers q (Some k) h is)) m

pub record Pair_is (r : Parts) (x : Mips) (q : Clock) : Type 0 where
  pub core : q.core ≡ r.window
  pub state : q.state ≡ x

pub pair-is : (r : Parts) (x : Mips) (numbers : List ℕ) (q : Clock) → Shows r x numbers q → Pair_is r x q
unfolding clock_of
pair-is r x numbers q h = record { core = ap (λ (c : Clock). c.core) h.clock; state = ap (λ (c : Clock). c.state) h.clock }

pub attempt-is : (r : Parts) (x : Mips) (numbers : List ℕ) (q : Clock) (e : Event) → Shows r x numbers q → attempt q.core q.state e ≡ attempt r.window x e
attempt-is r x numbers q e h = let w = pair-is r x numbers q h in ap₂ (λ c z. attempt c z e) w.core w.state

pub refused-finish : (r : Parts) (x : Mips) (numbers : List ℕ) (k : ℕ) (d : Core) (y : Mips) (q : Clock) → Shows r x numbers q
    → AppliedAs r.window x (Finish k) false d y → Made (finish_at q (Some k)) false (with_window r d) y numbers q
refused-finish r x numbers k d y q h a =
    let u = unchanged-as r.window x (Finish k) d y a in
    let none : finish_at q (Some k) ≡ None = ap (finish_entry q k) (attempt-is r x numbers q (Finish k) h ∙ u.0) in
    subst (λ t. Made (finish_at q (Some k)) false t y numbers q) (sym (same-window r d u.1))
    (subst (λ z. Made (finish_at q (Some k)) false r z numbers q) (sym u.2) (made-none (finish_at q (Some k)) r x numbers q none h))

pub refused-as-sound : (r : Parts) (x : Mips) (e : Event) (d : Core) (y : Mips) → AreSound r x → AppliedAs r.window x e false d y → AreSound (with_window r d) y
refused-as-sound r x e d y h a =
    let u = unchanged-as r.window x e d y a in
    subst (λ t. AreSound t y) (sym (same-window r d u.1)) (subst (AreSound r) (sym u.2) h)

-- a finish without a squash
with-core : Clock → Core → Clock
with-core q c = record q { core = c }

core-clock : (r : Parts) (x : Mips) (numbers fetched loaded : List ℕ) (c d : Core) (y : Mips) → d ≡ c → y ≡ x
    → with-core (clock_of r x fetched loaded numbers) c ≡ clock_of (with_window r d) y fetched loaded numbers
unfolding clock_of with-core
core-clock r x numbers fetched loaded c d y core state =
    λ i. record {
      cycle = r.cycle;
      fetch_free = r.fetch_free;
      load_free = r.load_free;
      store_free = r.store_free;
      arrived = r.arrived;
      core = sym core i;
      times = r.times.items;
      state = sym state i;
      fetched = fetched;
      loaded = loaded;
      numbers = numbers;
    }

pub finish-alone : (r : Parts) (x : Mips) (numbers : List ℕ) (k : ℕ) (d : Core) (y : Mips) (d' : Core) (y' : Mips) (q : Clock) → Shows r x numbers q
    → AppliedAs r.window x (Finish k) true d y → AppliedAs d y (Squash k) false d' y'
    → Made (finish_at q (Some k)) true (with_window r d') y' numbers q
unfolding with-core
finish-alone r x numbers k d y d' y' q h a b =
    let m = made-as r.window x (Finish k) d y a in
    let u = unchanged-as d y (Squash k) d' y' b in
    let w = pair-is r x numbers q h in
    let left : m.after.state ≡ x = finish-state r.window x k m.after m.attempted in
    let same : y ≡ x = m.state ∙ left in
    let none : attempt m.after.core q.state (Squash k) ≡ None = ap₂ (λ c z. attempt c z (Squash k)) (sym m.core) (w.state ∙ sym same) ∙ u.0 in
    let move : finish_at q (Some k) ≡ Some (makes (Finish k ∷ []) (with-core q m.after.core)) =
    ap (finish_entry q k) (attempt-is r x numbers q (Finish k) h ∙ m.attempted) ∙ ap (λ o. Some (squashed_too q k m.after.core o)) none in
    let clock : with-core q m.after.core ≡ clock_of (with_window r d') y' q.fetched q.loaded numbers =
    ap (λ c. with-core c m.after.core) h.clock ∙ core-clock r x numbers q.fetched q.loaded m.after.core d' y' (u.1 ∙ m.core) (u.2 ∙ same) in
    made-some (finish_at q (Some k)) (makes (Finish k ∷ []) (with-core q m.after.core)) (with_window r d') y' numbers q move
    (record { clock = clock; icache = h.icache; dcache = h.dcache })

pub finish-alone-sound : (r : Parts) (x : Mips) (k : ℕ) (d : Core) (y : Mips) (d' : Core) (y' : Mips) → AreSound r x
    → AppliedAs r.window x (Finish k) true d y → AppliedAs d y (Squash k) false d' y' → AreSound (with_window r d') y'
finish-alone-sound r x k d y d' y' h a b =
    let m = made-as r.window x (Finish k) d y a in
    let u = unchanged-as d y (Squash k) d' y' b in
    let kept = finish-kept r.window x k m.after m.attempted in
    let is : d' ≡ m.after.core = u.1 ∙ m.core in
    record {
      stands = b.stands;
      times = omega (arith, h.times, kept.entries, ap (λ (c : Core). length c.entries) is);
      rob = ap (λ (c : Core). c.rob) is ∙ kept.rob ∙ h.rob;
      room = omega (arith, h.room, kept.rob, ap (λ (c : Core). c.rob) is);
      cached = h.cached;
      miss = h.miss;
      store = h.store;
      mul = h.mul;
      div = h.div;
      cycle = h.cycle;
    }

-- a finish with a squash
pub record CutTo (r n : Parts) (d : Core) : Type 0 where
  pub parts : n ≡ record (with_window r d) { times = n.times }
  pub times : n.times.items ≡ take (length d.entries) r.times.items
  pub capacity : deque_capacity n.times ≡ deque_capacity r.times

with-cut : Clock → Core → Clock
with-cut q c = record q { core = c; times = take (length c.entries) q.times }

cut-clock : (r n : Parts) (x : Mips) (numbers fetched loaded : List ℕ) (c d : Core) (y : Mips) → CutTo r n d → d ≡ c → y ≡ x
    → with-cut (clock_of r x fetched loaded numbers) c ≡ clock_of n y fetched loaded numbers
unfolding clock_of with-cut
cut-clock r n x numbers fetched loaded c d y g core state =
    let cycle : r.cycle ≡ n.cycle = ap (λ (t : Parts). t.cycle) (sym g.parts) in
    let fetch_free : r.fetch_free ≡ n.fetch_free = ap (λ (t : Parts). t.fetch_free) (sym g.parts) in
    let load_free : r.load_free ≡ n.load_free = ap (λ (t : Parts). t.load_free) (sym g.parts) in
    let store_free : r.store_free ≡ n.store_free = ap (λ (t : Parts). t.store_free) (sym g.parts) in
    let arrived : r.arrived ≡ n.arrived = ap (λ (t : Parts). t.arrived) (sym g.parts) in
    let window : c ≡ n.window = sym core ∙ ap (λ (t : Parts). t.window) (sym g.parts) in
    let times : take (length c.entries) r.times.items ≡ n.times.items =
    ap (λ (b : Core). take (length b.entries) r.times.items) (sym core) ∙ sym g.times in
    λ i. record {
      cycle = cycle i;
      fetch_free = fetch_free i;
      load_free = load_free i;
      store_free = store_free i;
      arrived = arrived i;
      core = window i;
      times = times i;
      state = sym state i;
      fetched = fetched;
      loaded = loaded;
      numbers = numbers;
    }

pub finish-cut : (r n : Parts) (x : Mips) (numbers : List ℕ) (k : ℕ) (d : Core) (y : Mips) (d' : Core) (y' : Mips) (q : Clock) → Shows r x numbers q
    → AppliedAs r.window x (Finish k) true d y → AppliedAs d y (Squash k) true d' y' → CutTo r n d'
    → Made (finish_at q (Some k)) true n y' numbers q
unfolding with-cut
finish-cut r n x numbers k d y d' y' q h a b g =
    let m = made-as r.window x (Finish k) d y a in
    let u = made-as d y (Squash k) d' y' b in
    let w = pair-is r x numbers q h in
    let left : m.after.state ≡ x = finish-state r.window x k m.after m.attempted in
    let same : y ≡ x = m.state ∙ left in
    let last : y' ≡ x = u.state ∙ squash-state d y k u.after u.attempted ∙ same in
    let then : attempt m.after.core q.state (Squash k) ≡ Some u.after =
    ap₂ (λ c z. attempt c z (Squash k)) (sym m.core) (w.state ∙ sym same) ∙ u.attempted in
    let move : finish_at q (Some k) ≡ Some (makes (Finish k ∷ Squash k ∷ []) (with-cut q u.after.core)) =
    ap (finish_entry q k) (attempt-is r x numbers q (Finish k) h ∙ m.attempted) ∙ ap (λ o. Some (squashed_too q k m.after.core o)) then in
    let clock : with-cut q u.after.core ≡ clock_of n y' q.fetched q.loaded numbers =
    ap (λ c. with-cut c u.after.core) h.clock ∙ cut-clock r n x numbers q.fetched q.loaded u.after.core d' y' g u.core last in
    made-some (finish_at q (Some k)) (makes (Finish k ∷ Squash k ∷ []) (with-cut q u.after.core)) n y' numbers q move
    (record {
      clock = clock;
      icache = subst (λ o. StandsForAddresses o q.fetched) (ap (λ (t : Parts). t.icache) (sym g.parts)) h.icache;
      dcache = subst (λ o. StandsForAddresses o q.loaded) (ap (λ (t : Parts). t.dcache) (sym g.parts)) h.dcache;
    })

pub finish-cut-sound : (r n : Parts) (x : Mips) (k : ℕ) (d : Core) (y : Mips) (d' : Core) (y' : Mips) → AreSound r x
    → AppliedAs r.window x (Finish k) true d y → AppliedAs d y (Squash k) true d' y' → CutTo r n d' → AreSound n y'
finish-cut-sound r n x k d y d' y' h a b g =
    let m = made-as r.window x (Finish k) d y a in
    let u = made-as d y (Squash k) d' y' b in
    let kept = finish-kept r.window x k m.after m.attempted in
    let rob : d'.rob ≡ r.window.rob =
    ap (λ (c : Core). c.rob) u.core ∙ squash-rob d y k u.after u.attempted ∙ ap (λ (c : Core). c.rob) m.core ∙ kept.rob in
    let window : n.window ≡ d' = ap (λ (t : Parts). t.window) g.parts in
    let pace = ap (λ (t : Parts). t.pace) g.parts in
    record {
      stands = subst (λ c. Stands c y') (sym window) b.stands;
      times = omega (arith, ap length g.times, length-take (length d'.entries) r.times.items, ap (λ (c : Core). length c.entries) window);
      rob = ap (λ (c : Core). c.rob) window ∙ rob ∙ h.rob ∙ ap (λ t. t.rob) (sym pace);
      room = omega (arith, h.room, rob, ap (λ (c : Core). c.rob) window, g.capacity);
      cached = ap (λ t. t.has_icache) pace ∙ h.cached ∙ ap (λ (t : Parts). is_some (shape_of t.icache)) (sym g.parts);
      miss = omega (arith, h.miss, ap (λ t. t.miss) pace);
      store = omega (arith, h.store, ap (λ t. t.store) pace);
      mul = omega (arith, h.mul, ap (λ t. t.mul) pace);
      div = omega (arith, h.div, ap (λ t. t.div) pace);
      cycle = omega (arith, h.cycle, ap (λ (t : Parts). t.cycle) g.parts);
    }
