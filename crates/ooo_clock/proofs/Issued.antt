-- What an issue leaves is what its move leaves.
use Rattle.std.proofs.Common.{◌≡◌, ◌≤◌, ◌<◌, ◌+◌, ℕ, Bool, true, false, cond, List, [], ◌∷◌, length, set, take, Option, Some, None, refl, sym, ap, ap₂, ◌∙◌, subst, arith}
use Rattle.std.proofs.lemmas.Grind.{common_steps}
use Rattle.std.specs.Option.{option_map}
use Rattle.std.specs.Prelude.{not, ◌&&◌, ◌||◌, is_some, max, nat_le, slice_get}
use Rattle.std.specs.VecDeque.{deque_capacity}
use Rattle.mips_isa.specs.Kinds.{kind_of}
use Rattle.mips_isa.specs.declared.instr.Instr.{Instr}
use Rattle.mips_ref.specs.Memory.{in_port}
use Rattle.mips_ref.specs.Mips.{Mips}
use Rattle.cache_lru.specs.Contents.{Contents, StandsForAddresses}
use Rattle.cache_lru.specs.Recency.{hits_at}
use Rattle.core_window.specs.Beside.{Stands}
use Rattle.core_window.specs.Core.{Core, Pair}
use Rattle.core_window.specs.Events.{attempt, beside, issued, issued_by as core_issued_by}
use Rattle.core_window.specs.Outcomes.{is_load, outcome_of}
use Rattle.core_window.specs.Shown.{shown_of}
use Rattle.core_window.specs.declared.records.Entry.{Entry}
use Rattle.core_window.specs.declared.records.EntryView.{EntryView}
use Rattle.core_window.specs.declared.records.Event.TheVariants.{Issue}
use Rattle.core_window.specs.declared.records.Outcome.{Outcome}
use Rattle.core_window.specs.declared.records.Outcome.TheVariants.{Trapped, Parts as PartsOf}
use Rattle.core_window.specs.declared.records.Status.{Status}
use Rattle.core_window.specs.declared.records.Status.TheVariants.{Waiting, Running, Done}
use Rattle.ooo_clock.proofs.Committed.{made-none, made-some, with_window}
use Rattle.ooo_clock.proofs.Finished.{AppliedAs, Kept, attempt-is, find-first, find-none, made-as, status-kept}
use Rattle.ooo_clock.proofs.Performs.{issue-state}
use Rattle.ooo_clock.proofs.Seen.{entry_of, shown-at}
use Rattle.ooo_clock.specs.Clock.{Clock, Speeds}
use Rattle.ooo_clock.specs.Moves.{ends_after, first_due, is_due, issue_at, issue_due, issue_due_of, issue_entry, issue_move, issued_entry, issued_status, latency_of, load_at, load_hits, load_misses, load_with, loads, makes}
use Rattle.ooo_clock.specs.Shows.{AreSound, Made, Shows, Stays, clock_of, issue_due_in, speeds_of}
use Rattle.ooo_clock.specs.Views.{in_time, issued_view, latency, loads_now}
use Rattle.ooo_clock.specs.declared.clock.Parts.{Parts}
use Rattle.ooo_clock.specs.declared.clock.Times.{Times}

-- parts with other times, another load word and another data cache show the clock with these
pub record Loaded (r n : Parts) (times : List Times) (load_free : ℕ) : Type 0 where
  pub parts : n ≡ record r { times = n.times; load_free = load_free; dcache = n.dcache }
  pub times_are : n.times.items ≡ times

loaded-clock : (r n : Parts) (x : Mips) (numbers fetched loaded more : List ℕ) (times : List Times) (load_free : ℕ) → Loaded r n times load_free
    → record (clock_of r x fetched loaded numbers) { times = times; load_free = load_free; loaded = more } ≡ clock_of n x fetched more numbers
unfolding clock_of
loaded-clock r n x numbers fetched loaded more times load_free g =
    let cycle : r.cycle ≡ n.cycle = ap (λ (t : Parts). t.cycle) (sym g.parts) in
    let fetch_free : r.fetch_free ≡ n.fetch_free = ap (λ (t : Parts). t.fetch_free) (sym g.parts) in
    let load : load_free ≡ n.load_free = ap (λ (t : Parts). t.load_free) (sym g.parts) in
    let store_free : r.store_free ≡ n.store_free = ap (λ (t : Parts). t.store_free) (sym g.parts) in
    let arrived : r.arrived ≡ n.arrived = ap (λ (t : Parts). t.arrived) (sym g.parts) in
    let window : r.window ≡ n.window = ap (λ (t : Parts). t.window) (sym g.parts) in
    λ i. record {
      cycle = cycle i;
      fetch_free = fetch_free i;
      load_free = load i;
      store_free = store_free i;
      arrived = arrived i;
      core = window i;
      times = sym g.times_are i;
      state = x;
      fetched = fetched;
      loaded = more;
      numbers = numbers;
    }

pub with-load : Clock → List Times → ℕ → List ℕ → Clock
with-load q times load_free loaded = record q { times = times; load_free = load_free; loaded = loaded }

pub loaded-shows : (r n : Parts) (x : Mips) (numbers more : List ℕ) (q : Clock) (times : List Times) (load_free : ℕ) → Shows r x numbers q
    → Loaded r n times load_free → StandsForAddresses n.dcache more → Shows n x numbers (with-load q times load_free more)
unfolding with-load
loaded-shows r n x numbers more q times load_free h g stands =
    record {
      clock = ap (λ c. with-load c times load_free more) h.clock ∙ loaded-clock r n x numbers q.fetched q.loaded more times load_free g;
      icache = subst (λ m. StandsForAddresses m q.fetched) (ap (λ (t : Parts). t.icache) (sym g.parts)) h.icache;
      dcache = stands;
    }

-- the words of a clock that parts show
pub record LoadWords (r : Parts) (x : Mips) (numbers : List ℕ) (q : Clock) : Type 0 where
  pub times : q.times ≡ r.times.items
  pub cycle : q.cycle ≡ r.cycle
  pub load_free : q.load_free ≡ r.load_free

pub load-words : (r : Parts) (x : Mips) (numbers : List ℕ) (q : Clock) → Shows r x numbers q → LoadWords r x numbers q
unfolding clock_of
load-words r x numbers q h =
    record {
      times = ap (λ (c : Clock). c.times) h.clock;
      cycle = ap (λ (c : Clock). c.cycle) h.clock;
      load_free = ap (λ (c : Clock). c.load_free) h.clock;
    }

pub set-times : List Times → ℕ → Times → ℕ → List Times
set-times times k t ends = set times k (record t { ends = ends })

-- an entry that loads nothing
pub plain-shows : (r n : Parts) (x : Mips) (numbers : List ℕ) (q : Clock) (k : ℕ) (t : Times) (latency : ℕ) → Shows r x numbers q
    → n ≡ record r { times = n.times } → n.times.items ≡ set r.times.items k (record t { ends = r.cycle + latency })
    → Shows n x numbers (ends_after q k t q.core latency)
unfolding with-load set-times
plain-shows r n x numbers q k t latency h parts times =
    let w = load-words r x numbers q h in
    let g : Loaded r n (set r.times.items k (record t { ends = r.cycle + latency })) r.load_free =
    record { parts = parts ∙ ap (λ d. record r { times = n.times; dcache = d }) (sym (ap (λ (p : Parts). p.dcache) parts)); times_are = times } in
    let stands = subst (λ m. StandsForAddresses m q.loaded) (ap (λ (p : Parts). p.dcache) (sym parts)) h.dcache in
    let shown = loaded-shows r n x numbers q.loaded q (set r.times.items k (record t { ends = r.cycle + latency })) r.load_free h g stands in
    let same : with-load q (set r.times.items k (record t { ends = r.cycle + latency })) r.load_free q.loaded ≡ ends_after q k t q.core latency =
    ap₂ (λ a b. with-load q a b q.loaded) (ap₂ (λ ts c. set-times ts k t (c + latency)) (sym w.times) (sym w.cycle)) (sym w.load_free) in
    subst (Shows n x numbers) same shown

-- a load that keeps the next one back
pub later-shows : (r n : Parts) (x : Mips) (numbers more : List ℕ) (q : Clock) (k : ℕ) (t : Times) (latency : ℕ) (word : ℕ → ℕ) (d : Option Contents)
    → Shows r x numbers q → n ≡ record r { times = n.times; load_free = word r.cycle; dcache = d }
    → n.times.items ≡ set r.times.items k (record t { ends = r.cycle + latency }) → StandsForAddresses d more
    → Shows n x numbers (with-load q (set-times q.times k t (q.cycle + latency)) (word q.cycle) more)
unfolding set-times
later-shows r n x numbers more q k t latency word d h parts times stands =
    let w = load-words r x numbers q h in
    let cache : d ≡ n.dcache = ap (λ (p : Parts). p.dcache) (sym parts) in
    let g : Loaded r n (set-times r.times.items k t (r.cycle + latency)) (word r.cycle) =
    record { parts = parts ∙ ap (λ e. record r { times = n.times; load_free = word r.cycle; dcache = e }) cache; times_are = times } in
    let shown = loaded-shows r n x numbers more q (set-times r.times.items k t (r.cycle + latency)) (word r.cycle) h g
    (subst (λ m. StandsForAddresses m more) cache stands) in
    let same : with-load q (set-times r.times.items k t (r.cycle + latency)) (word r.cycle) more
    ≡ with-load q (set-times q.times k t (q.cycle + latency)) (word q.cycle) more =
    ap₂ (λ a b. with-load q a b more) (ap₂ (λ ts c. set-times ts k t (c + latency)) (sym w.times) (sym w.cycle)) (ap word (sym w.cycle)) in
    subst (Shows n x numbers) same shown

pub misses-shows : (r n : Parts) (x : Mips) (numbers more : List ℕ) (q : Clock) (k : ℕ) (t : Times) (d : Option Contents) → Shows r x numbers q
    → n ≡ record r { times = n.times; load_free = r.cycle + 1 + r.pace.miss; dcache = d }
    → n.times.items ≡ set r.times.items k (record t { ends = r.cycle + (2 + r.pace.miss) }) → StandsForAddresses d more
    → Shows n x numbers (load_misses (speeds_of r) q k t q.core more)
unfolding with-load set-times
misses-shows r n x numbers more q k t d h parts times stands =
    later-shows r n x numbers more q k t (2 + r.pace.miss) (λ c. c + 1 + r.pace.miss) d h parts times stands

pub hits-shows : (r n : Parts) (x : Mips) (numbers : List ℕ) (q : Clock) (k : ℕ) (t : Times) (at : ℕ) (d : Option Contents) → Shows r x numbers q
    → n ≡ record r { times = n.times; load_free = r.cycle + 1; dcache = d }
    → n.times.items ≡ set r.times.items k (record t { ends = r.cycle + 2 }) → StandsForAddresses d (at ∷ q.loaded)
    → Shows n x numbers (load_hits q k t q.core at)
unfolding with-load set-times
hits-shows r n x numbers q k t at d h parts times stands =
    later-shows r n x numbers (at ∷ q.loaded) q k t 2 (λ c. c + 1) d h parts times stands

-- which of the loads it is
pub port-is : (s : Speeds) (q : Clock) (k : ℕ) (t : Times) (c : Core) (at : ℕ) → in_port at ≡ true → load_at s q k t c at ≡ load_misses s q k t c q.loaded
port-is s q k t c at e = ap (λ b. cond b (load_misses s q k t c q.loaded) (cond (hits_at s.dcache at q.loaded) (load_hits q k t c at) (load_misses s q k t c (at ∷ q.loaded)))) e

pub cache-is : (s : Speeds) (q : Clock) (k : ℕ) (t : Times) (c : Core) (at : ℕ) → in_port at ≡ false
    → load_at s q k t c at ≡ cond (hits_at s.dcache at q.loaded) (load_hits q k t c at) (load_misses s q k t c (at ∷ q.loaded))
cache-is s q k t c at e = ap (λ b. cond b (load_misses s q k t c q.loaded) (cond (hits_at s.dcache at q.loaded) (load_hits q k t c at) (load_misses s q k t c (at ∷ q.loaded)))) e

pub hit-is : (s : Speeds) (q : Clock) (k : ℕ) (t : Times) (c : Core) (at : ℕ) → in_port at ≡ false → hits_at s.dcache at q.loaded ≡ true
    → load_at s q k t c at ≡ load_hits q k t c at
hit-is s q k t c at e f = cache-is s q k t c at e ∙ ap (λ b. cond b (load_hits q k t c at) (load_misses s q k t c (at ∷ q.loaded))) f

pub miss-is : (s : Speeds) (q : Clock) (k : ℕ) (t : Times) (c : Core) (at : ℕ) → in_port at ≡ false → hits_at s.dcache at q.loaded ≡ false
    → load_at s q k t c at ≡ load_misses s q k t c (at ∷ q.loaded)
miss-is s q k t c at e f = cache-is s q k t c at e ∙ ap (λ b. cond b (load_hits q k t c at) (load_misses s q k t c (at ∷ q.loaded))) f

pub view-if : (s : Speeds) (q : Clock) (k : ℕ) (t : Times) (c : Core) (v : EntryView) (b : Bool) → loads_now v ≡ b
    → issued_view s q k t c v ≡ cond b (load_with s q k t c v.at) (ends_after q k t c (latency s v))
view-if s q k t c v b e = ap (λ a. cond a (load_with s q k t c v.at) (ends_after q k t c (latency s v))) e

-- what is shown of an issued entry says what the issue leaves
and-false : (b : Bool) → (b && false) ≡ false
and-false true = refl
and-false false = refl

and-true : (b : Bool) → (b && true) ≡ b
and-true true = refl
and-true false = refl

pub shown-issue : (s : Speeds) (q : Clock) (k : ℕ) (t : Times) (c : Core) (pc npc guess : ℕ) (o : Option Instr) (u : Status)
    → issued_view s q k t c (shown_of (entry_of pc npc guess o u)) ≡ issued_status s q k t c o (outcome_of u)
unfolding shown_of
shown-issue s q k t c pc npc guess None Waiting = refl
shown-issue s q k t c pc npc guess None (Running (PartsOf r)) = refl
shown-issue s q k t c pc npc guess None (Running (Trapped kind)) = refl
shown-issue s q k t c pc npc guess None (Done (PartsOf r)) = refl
shown-issue s q k t c pc npc guess None (Done (Trapped kind)) = refl
shown-issue s q k t c pc npc guess (Some i) Waiting = ap (λ b. cond b (load_with s q k t c None) (ends_after q k t c 1)) (and-false (is_load i))
shown-issue s q k t c pc npc guess (Some i) (Running (PartsOf r)) =
    ap (λ b. cond b (load_with s q k t c r.at) (ends_after q k t c (latency_of s (kind_of i)))) (and-true (is_load i))
shown-issue s q k t c pc npc guess (Some i) (Running (Trapped kind)) =
    ap (λ b. cond b (load_with s q k t c None) (ends_after q k t c (latency_of s (kind_of i)))) (and-false (is_load i))
shown-issue s q k t c pc npc guess (Some i) (Done (PartsOf r)) =
    ap (λ b. cond b (load_with s q k t c r.at) (ends_after q k t c (latency_of s (kind_of i)))) (and-true (is_load i))
shown-issue s q k t c pc npc guess (Some i) (Done (Trapped kind)) =
    ap (λ b. cond b (load_with s q k t c None) (ends_after q k t c (latency_of s (kind_of i)))) (and-false (is_load i))

-- when it is due
max-test : (a b c : ℕ) → nat_le (max a b) c ≡ (nat_le a c && nat_le b c)
max-test a b c = by (nat_le a c) (nat_le b c) refl refl
  where
    by : (p r : Bool) → nat_le a c ≡ p → nat_le b c ≡ r → nat_le (max a b) c ≡ (p && r)
    by true true e f =
        let low : a ≤ c = grind (arith, common_steps, e) in
        let high : b ≤ c = grind (arith, common_steps, f) in
        let m : max a b ≤ c = omega (arith, low, high) in grind (arith, common_steps, m)
    by true false e f =
        let high : c < b = grind (arith, common_steps, f) in
        let m : c < max a b = omega (arith, high) in grind (arith, common_steps, m)
    by false r e f =
        let low : c < a = grind (arith, common_steps, e) in
        let m : c < max a b = omega (arith, low) in grind (arith, common_steps, m)

load-test : (l : Bool) (a b c : ℕ) → nat_le (max a (cond l b 0)) c ≡ (nat_le a c && (not l || nat_le b c))
load-test true a b c = max-test a b c
load-test false a b c = max-test a 0 c ∙ ap (λ t. nat_le a c && t) (zero-le c)
  where
    zero-le : (n : ℕ) → nat_le 0 n ≡ true
    zero-le n = grind (arith, common_steps)

instr-at : (pc npc guess : ℕ) (o : Option Instr) (u : Status) → (shown_of (entry_of pc npc guess o u)).instr ≡ o
unfolding shown_of
instr-at pc npc guess o Waiting = refl
instr-at pc npc guess o (Running (PartsOf r)) = refl
instr-at pc npc guess o (Running (Trapped kind)) = refl
instr-at pc npc guess o (Done (PartsOf r)) = refl
instr-at pc npc guess o (Done (Trapped kind)) = refl

due-with : (lf : ℕ) (e : Entry) (t : Times) (b : Bool) (cycle : ℕ)
    → is_due (issue_due_of lf (Some e) (Some t) b) cycle ≡ (b && (nat_le (t.fetched + 2) cycle && (not (loads e.instr) || nat_le lf cycle)))
due-with lf e t true cycle = load-test (loads e.instr) (t.fetched + 2) lf cycle
due-with lf e t false cycle = refl

pub due-is : (r : Parts) (x : Mips) (k : ℕ) (v : EntryView) (t : Times) → option_map shown_of (slice_get r.window.entries k) ≡ Some v
    → slice_get r.times.items k ≡ Some t
    → is_due (issue_due_in r x k) r.cycle ≡ (is_some (attempt r.window x (Issue k)) && in_time v t r.load_free r.cycle)
due-is r x k v t there at =
    let s = shown-at r.window.entries k v there in
    let e = s.entry in
    let instr : v.instr ≡ e.instr = ap (λ (u : EntryView). u.instr) (sym s.shown) ∙ instr-at e.pc e.npc e.guess e.instr e.status in
    ap₂ (λ a b. is_due (issue_due_of r.load_free a b (is_some (attempt r.window x (Issue k)))) r.cycle) s.there at
    ∙ due-with r.load_free e t (is_some (attempt r.window x (Issue k))) r.cycle
    ∙ ap (λ o. is_some (attempt r.window x (Issue k)) && (nat_le (t.fetched + 2) r.cycle && (not (loads o) || nat_le r.load_free r.cycle))) (sym instr)

and-no : (b c : Bool) → c ≡ false → (b && c) ≡ false
and-no true c e = e
and-no false c e = refl

pub not-in-time : (r : Parts) (x : Mips) (k : ℕ) (v : EntryView) (t : Times) → option_map shown_of (slice_get r.window.entries k) ≡ Some v
    → slice_get r.times.items k ≡ Some t → in_time v t r.load_free r.cycle ≡ false → false ≡ is_due (issue_due_in r x k) r.cycle
not-in-time r x k v t there at early = sym (due-is r x k v t there at ∙ and-no (is_some (attempt r.window x (Issue k))) (in_time v t r.load_free r.cycle) early)

both : (b c : Bool) → b ≡ true → c ≡ true → true ≡ (b && c)
both true c e f = sym f
both false c e f = cc

pub due-now : (r : Parts) (x : Mips) (k : ℕ) (v : EntryView) (t : Times) → option_map shown_of (slice_get r.window.entries k) ≡ Some v
    → slice_get r.times.items k ≡ Some t → in_time v t r.load_free r.cycle ≡ true → true ≡ is_some (attempt r.window x (Issue k))
    → true ≡ is_due (issue_due_in r x k) r.cycle
due-now r x k v t there at time made =
    both (is_some (attempt r.window x (Issue k))) (in_time v t r.load_free r.cycle) (sym made) time ∙ sym (due-is r x k v t there at)

-- how many entries there are after it
issued-kept : (c : Core) (x : Mips) (k : ℕ) (o : Option Entry) (after : Pair) → beside x (issued c x k o) ≡ Some after → Kept c after.core
issued-kept c x k None after h = cc
issued-kept c x k (Some e) after h = status-kept c x k e (core_issued_by e.instr e.status (take k c.entries) x e) after h

pub issue-kept : (c : Core) (x : Mips) (k : ℕ) (after : Pair) → attempt c x (Issue k) ≡ Some after → Kept c after.core
unfolding attempt
issue-kept c x k after h = issued-kept c x k (slice_get c.entries k) after h

-- the move
with-core : Clock → Core → Clock
with-core q c = record q { core = c }

core-shows : (r : Parts) (x : Mips) (numbers : List ℕ) (c d : Core) (y : Mips) (q : Clock) → Shows r x numbers q → d ≡ c → y ≡ x
    → Shows (with_window r d) y numbers (with-core q c)
unfolding clock_of with-core
core-shows r x numbers c d y q h core state =
    let same : with-core (clock_of r x q.fetched q.loaded numbers) c ≡ clock_of (with_window r d) y q.fetched q.loaded numbers =
    λ i. record {
      cycle = r.cycle;
      fetch_free = r.fetch_free;
      load_free = r.load_free;
      store_free = r.store_free;
      arrived = r.arrived;
      core = sym core i;
      times = r.times.items;
      state = sym state i;
      fetched = q.fetched;
      loaded = q.loaded;
      numbers = numbers;
    } in
    record { clock = ap (λ p. with-core p c) h.clock ∙ same; icache = h.icache; dcache = h.dcache }

status-with-core : (s : Speeds) (q : Clock) (k : ℕ) (t : Times) (c : Core) (o : Option Instr) (u : Option Outcome)
    → issued_status s (with-core q c) k t c o u ≡ issued_status s q k t c o u
unfolding with-core
status-with-core s q k t c None u = refl
status-with-core s q k t c (Some i) None = refl
status-with-core s q k t c (Some i) (Some (Trapped kind)) = refl
status-with-core s q k t c (Some i) (Some (PartsOf r)) = ap (λ p. cond (is_load i) p (ends_after q k t c (latency_of s (kind_of i)))) (at r.at)
  where
    at : (a : Option ℕ) → load_with s (record q { core = c }) k t c a ≡ load_with s q k t c a
    at None = refl
    at (Some n) = refl

pub issue-made : (r n : Parts) (x : Mips) (numbers : List ℕ) (k : ℕ) (t : Times) (v : EntryView) (d : Core) (y : Mips) (q : Clock) → Shows r x numbers q
    → AppliedAs r.window x (Issue k) true d y → slice_get r.times.items k ≡ Some t → option_map shown_of (slice_get d.entries k) ≡ Some v
    → ((p : Clock) → Shows (with_window r d) y numbers p → Shows n y numbers (issued_view (speeds_of r) p k t p.core v))
    → Made (issue_at (speeds_of r) q (Some k)) true n y numbers q
unfolding with-core
issue-made r n x numbers k t v d y q h a at there run =
    let m = made-as r.window x (Issue k) d y a in
    let same : y ≡ x = m.state ∙ issue-state r.window x k m.after m.attempted in
    let s = speeds_of r in
    let p = with-core q m.after.core in
    let before : Shows (with_window r d) y numbers p = core-shows r x numbers m.after.core d y q h m.core same in
    let shown = shown-at m.after.core.entries k v (ap (λ (c : Core). option_map shown_of (slice_get c.entries k)) (sym m.core) ∙ there) in
    let e = shown.entry in
    let times : slice_get q.times k ≡ Some t = ap (λ ts. slice_get ts k) (load-words r x numbers q h).times ∙ at in
    let move : issue_at s q (Some k) ≡ Some (makes (Issue k ∷ []) (issued_status s q k t m.after.core e.instr (outcome_of e.status))) =
    ap (issue_entry s q k) (attempt-is r x numbers q (Issue k) h ∙ m.attempted)
    ∙ ap₂ (λ a b. Some (makes (Issue k ∷ []) (issued_entry s q k m.after.core a b))) shown.there times in
    let is : issued_view s p k t p.core v ≡ issued_status s q k t m.after.core e.instr (outcome_of e.status) =
    ap (issued_view s p k t m.after.core) (sym shown.shown) ∙ shown-issue s p k t m.after.core e.pc e.npc e.guess e.instr e.status
    ∙ status-with-core s q k t m.after.core e.instr (outcome_of e.status) in
    made-some (issue_at s q (Some k)) (makes (Issue k ∷ []) (issued_status s q k t m.after.core e.instr (outcome_of e.status))) n y numbers q move
    (subst (Shows n y numbers) is (run p before))

pub issue-within : (r : Parts) (x : Mips) (k : ℕ) (d : Core) (y : Mips) → AppliedAs r.window x (Issue k) true d y → k < length r.window.entries
    → k < length d.entries
issue-within r x k d y a low =
    let m = made-as r.window x (Issue k) d y a in
    let kept = issue-kept r.window x k m.after m.attempted in
    omega (arith, low, kept.entries, ap (λ (c : Core). length c.entries) m.core)

pub issue-sound : (r n : Parts) (x : Mips) (k : ℕ) (d : Core) (y : Mips) → AreSound r x → AppliedAs r.window x (Issue k) true d y → n.window ≡ d
    → length n.times.items ≡ length r.times.items → deque_capacity n.times ≡ deque_capacity r.times → Stays (with_window r d) n → AreSound n y
issue-sound r n x k d y h a window len capacity stays =
    let m = made-as r.window x (Issue k) d y a in
    let kept = issue-kept r.window x k m.after m.attempted in
    let entries : length n.window.entries ≡ length r.window.entries = ap (λ (c : Core). length c.entries) (window ∙ m.core) ∙ kept.entries in
    let rob : n.window.rob ≡ r.window.rob = ap (λ (c : Core). c.rob) (window ∙ m.core) ∙ kept.rob in
    record {
      stands = subst (λ c. Stands c y) (sym window) a.stands;
      times = omega (arith, h.times, len, entries);
      rob = rob ∙ h.rob ∙ ap (λ t. t.rob) (sym stays.pace);
      room = omega (arith, h.room, rob, capacity);
      cached = ap (λ t. t.has_icache) stays.pace ∙ h.cached ∙ ap is_some (sym stays.icache);
      miss = omega (arith, h.miss, ap (λ t. t.miss) stays.pace);
      store = omega (arith, h.store, ap (λ t. t.store) stays.pace);
      mul = omega (arith, h.mul, ap (λ t. t.mul) stays.pace);
      div = omega (arith, h.div, ap (λ t. t.div) stays.pace);
      cycle = omega (arith, h.cycle, stays.cycle);
    }

-- the oldest that is due
due-same : (r : Parts) (x : Mips) (numbers : List ℕ) (q : Clock) → Shows r x numbers q
    → first_due (issue_due q) (length q.core.entries) q.cycle ≡ first_due (issue_due_in r x) (length r.window.entries) r.cycle
unfolding clock_of
due-same r x numbers q h = ap (λ (c : Clock). first_due (issue_due c) (length c.core.entries) c.cycle) h.clock

pub issue-first : (r n : Parts) (x : Mips) (y : Mips) (numbers : List ℕ) (q : Clock) (k : ℕ) → Shows r x numbers q
    → k < length r.window.entries → ((j : ℕ) → j < k → is_due (issue_due_in r x j) r.cycle ≡ false) → is_due (issue_due_in r x k) r.cycle ≡ true
    → Made (issue_at (speeds_of r) q (Some k)) true n y numbers q → Made (issue_move (speeds_of r) q) true n y numbers q
unfolding issue_move
issue-first r n x y numbers q k h low before due made =
    let first = due-same r x numbers q h
    ∙ find-first (λ j. is_due (issue_due_in r x j) r.cycle) 0 (length r.window.entries) k (omega arith) (omega (arith, low)) (λ j l u. before j u) due in
    subst (λ o. Made (issue_at (speeds_of r) q o) true n y numbers q) (sym first) made

pub issue-none : (r : Parts) (x : Mips) (numbers : List ℕ) (q : Clock) → Shows r x numbers q
    → ((j : ℕ) → j < length r.window.entries → is_due (issue_due_in r x j) r.cycle ≡ false) → Made (issue_move (speeds_of r) q) false r x numbers q
unfolding issue_move
issue-none r x numbers q h none =
    let first = due-same r x numbers q h
    ∙ find-none (λ j. is_due (issue_due_in r x j) r.cycle) 0 (length r.window.entries) (λ j l u. none j (omega (arith, u))) in
    made-none (issue_at (speeds_of r) q (first_due (issue_due q) (length q.core.entries) q.cycle)) r x numbers q (ap (issue_at (speeds_of r) q) first) h
