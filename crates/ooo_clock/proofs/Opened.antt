-- A fast core as it opens, and what it keeps from cycle to cycle.
use Rattle.std.proofs.Common.{◌≡◌, ◌≤◌, ◌+◌, ℕ, List, [], length, None, refl, sym, ap, ◌∙◌, subst, arith}
use Rattle.std.specs.Int.{div_ceil}
use Rattle.std.specs.Prelude.{◌-◌, is_some, max}
use Rattle.visa_io.specs.declared.records.Machine.{Machine}
use Rattle.mips_ref.specs.Mips.{Mips}
use Rattle.cache_lru.specs.Contents.{shape_of}
use Rattle.core_window.specs.Beside.{Stands}
use Rattle.core_window.specs.Core.{Core}
use Rattle.ooo_clock.proofs.Words.{cycle-within}
use Rattle.ooo_clock.specs.Clock.{Clock, Predicts, Speeds, in_flight_of, opening, speeds_at}
use Rattle.ooo_clock.specs.Cycle.{cycle_of, cycled_of}
use Rattle.ooo_clock.specs.Fasts.{Clocked, IsAt, IsReset, Keeps, StandsBeside, clock_with, clocked}
use Rattle.ooo_clock.specs.Shows.{AreSound, Shows, clock_of, speeds_of}
use Rattle.ooo_clock.specs.Within.{IsWithin}
use Rattle.ooo_clock.specs.declared.clock.Parts.{Parts}

-- the parts show what the fast core is at
pub at-shows : (m : Machine) (r : Parts) (commits : List ℕ) (x : Mips) (numbers : List ℕ) (q : Clock) → IsAt (clocked m r commits) x numbers q
    → Shows r x numbers q
unfolding clock_with clock_of
at-shows m r commits x numbers q h = record { clock = h.clock; icache = h.icache; dcache = h.dcache }

pub shows-at : (m : Machine) (r : Parts) (commits : List ℕ) (x : Mips) (numbers : List ℕ) (q : Clock) → Shows r x numbers q
    → IsAt (clocked m r commits) x numbers q
unfolding clock_with clock_of
shows-at m r commits x numbers q h = record { clock = h.clock; icache = h.icache; dcache = h.dcache }

pub sound-of : (m : Machine) (r : Parts) (room : ℕ) (x : Mips) → Keeps m r room → Stands r.window x → AreSound r x
sound-of m r room x h stands =
    record {
      stands = stands;
      times = h.times;
      rob = h.entries ∙ sym h.rob;
      room = omega (arith, h.entries, h.capacity);
      cached = h.cached ∙ ap is_some (sym h.icache);
      miss = h.miss;
      store = h.store;
      mul = omega (arith, h.mul, h.mul_few);
      div = omega (arith, h.div, h.div_few);
      cycle = h.cycle;
    }

-- its clock for some accesses
pub some-clock : (m : Machine) (r : Parts) (room : ℕ) (x : Mips) (numbers : List ℕ) (h : Keeps m r room)
    → Shows r x numbers (clock_of r x h.fetched h.loaded numbers)
unfolding clock_of
some-clock m r room x numbers h = record { clock = refl; icache = h.fetches; dcache = h.loads }

-- as it opens
pub reset-keeps : (m : Machine) (r n : Parts) (room : ℕ) (x : Mips) (miss store : ℕ) → Keeps m r room → IsReset r n x miss store
    → miss ≤ 100000 → store ≤ 100000 → Keeps m n room
reset-keeps m r n room x miss store h e a b =
    record {
      width = ap (λ t. t.width) e.pace ∙ h.width;
      rob = ap (λ t. t.rob) e.pace ∙ h.rob;
      mul = ap (λ t. t.mul) e.pace ∙ h.mul;
      div = ap (λ t. t.div) e.pace ∙ h.div;
      cached = ap (λ t. t.has_icache) e.pace ∙ h.cached;
      icache = e.icache ∙ h.icache;
      dcache = e.dcache ∙ h.dcache;
      entries = ap (λ (c : Core). c.rob) e.window ∙ h.entries;
      times = omega (arith, ap length e.times);
      capacity = omega (arith, h.capacity, e.capacity);
      commits = h.commits;
      mem_ps = h.mem_ps;
      store_ps = h.store_ps;
      mul_few = h.mul_few;
      div_few = h.div_few;
      miss = omega (arith, ap (λ t. t.miss) e.pace, a);
      store = omega (arith, ap (λ t. t.store) e.pace, b);
      cycle = omega (arith, e.cycle);
      fetch_free = omega (arith, e.fetch_free);
      load_free = omega (arith, e.load_free);
      store_free = omega (arith, e.store_free);
      fetched = [];
      loaded = [];
      fetches = e.fetches;
      loads = e.loads;
    }

pub reset-shows : (m : Machine) (r n : Parts) (room : ℕ) (x : Mips) (miss store : ℕ) (numbers : List ℕ) → Keeps m r room → IsReset r n x miss store
    → Shows n x numbers (opening m.rob x numbers)
unfolding clock_of opening
reset-shows m r n room x miss store numbers h e =
    let window = ap (λ rob. record { rob = rob; entries = []; fetch_pc = x.pc; fetch_next = x.next_pc; ending = None }) (sym h.entries) ∙ sym e.window in
    record {
      clock = λ i. record {
        cycle = sym e.cycle i;
        fetch_free = sym e.fetch_free i;
        load_free = sym e.load_free i;
        store_free = sym e.store_free i;
        arrived = sym e.arrived i;
        core = window i;
        times = sym e.times i;
        state = x;
        fetched = [];
        loaded = [];
        numbers = numbers;
      };
      icache = e.fetches;
      dcache = e.loads;
    }

pub reset-speeds : (m : Machine) (r n : Parts) (room : ℕ) (x : Mips) (miss store period_ps : ℕ) → Keeps m r room → IsReset r n x miss store
    → miss ≡ div_ceil m.mem_ps period_ps → store ≡ div_ceil m.store_ps period_ps → speeds_of n ≡ speeds_at m period_ps
reset-speeds m r n room x miss store period_ps h e a b =
    let width = ap (λ t. t.width) e.pace ∙ h.width in
    let misses = ap (λ t. t.miss) e.pace ∙ a in
    let stores = ap (λ t. t.store) e.pace ∙ b in
    let mul = ap (λ t. t.mul) e.pace ∙ h.mul in
    let div = ap (λ t. t.div) e.pace ∙ h.div in
    let icache = e.icache ∙ h.icache in
    let dcache = e.dcache ∙ h.dcache in
    λ i. record {
      width = width i;
      miss = misses i;
      store = stores i;
      mul = mul i;
      div = div i;
      icache = icache i;
      dcache = dcache i;
    }

pub reset-beside : (m : Machine) (r n : Parts) (x : Mips) (miss store : ℕ) (commits : List ℕ) → IsReset r n x miss store → StandsBeside (clocked m n commits) x
reset-beside m r n x miss store commits e = record { stands = e.stands; goes_on = ap (λ (c : Core). c.ending) e.window }

-- after a cycle
pub record Cycled_to (p : Predicts) (r n : Parts) (x y : Mips) (before after : List ℕ) : Type 0 where
  pub shows : (q : Clock) → Shows r x before q → Shows n y after (cycle_of (speeds_of r) p q).clock
  pub sound : AreSound n y
  pub cycle : n.cycle ≡ r.cycle + 1
  pub pace : n.pace ≡ r.pace
  pub icache : shape_of n.icache ≡ shape_of r.icache
  pub dcache : shape_of n.dcache ≡ shape_of r.dcache

within-of : (m : Machine) (r : Parts) (room : ℕ) (x : Mips) (numbers : List ℕ) (h : Keeps m r room)
    → IsWithin (speeds_of r) (clock_of r x h.fetched h.loaded numbers)
unfolding clock_of
within-of m r room x numbers h = record { fetch = h.fetch_free; load = h.load_free; store = h.store_free }

record FreeWords (r : Parts) (q : Clock) : Type 0 where
  pub cycle : q.cycle ≡ r.cycle
  pub fetch_free : q.fetch_free ≡ r.fetch_free
  pub load_free : q.load_free ≡ r.load_free
  pub store_free : q.store_free ≡ r.store_free

free-words : (r : Parts) (x : Mips) (numbers : List ℕ) (q : Clock) → Shows r x numbers q → FreeWords r q
unfolding clock_of
free-words r x numbers q h =
    record {
      cycle = ap (λ (c : Clock). c.cycle) h.clock;
      fetch_free = ap (λ (c : Clock). c.fetch_free) h.clock;
      load_free = ap (λ (c : Clock). c.load_free) h.clock;
      store_free = ap (λ (c : Clock). c.store_free) h.clock;
    }

pub cycle-keeps : (m : Machine) (p : Predicts) (r n : Parts) (room more : ℕ) (x y : Mips) (before after : List ℕ) → Keeps m r room
    → Cycled_to p r n x y before after → more ≡ room → n.cycle ≤ 1000000000000000000 → Keeps m n more
cycle-keeps m p r n room more x y before after h e same few =
    let q = clock_of r x h.fetched h.loaded before in
    let d = (cycle_of (speeds_of r) p q).clock in
    let shown = e.shows q (some-clock m r room x before h) in
    let within = cycle-within (speeds_of r) p q (within-of m r room x before h) in
    let w = free-words n y after d shown in
    let miss = ap (λ t. t.miss) e.pace in
    let store = ap (λ t. t.store) e.pace in
    let rob = ap (λ t. t.rob) e.pace ∙ h.rob in
    record {
      width = ap (λ t. t.width) e.pace ∙ h.width;
      rob = rob;
      mul = ap (λ t. t.mul) e.pace ∙ h.mul;
      div = ap (λ t. t.div) e.pace ∙ h.div;
      cached = ap (λ t. t.has_icache) e.pace ∙ h.cached;
      icache = e.icache ∙ h.icache;
      dcache = e.dcache ∙ h.dcache;
      entries = e.sound.rob ∙ rob;
      times = e.sound.times;
      capacity = omega (arith, e.sound.room, e.sound.rob, rob);
      commits = omega (arith, h.commits, same);
      mem_ps = h.mem_ps;
      store_ps = h.store_ps;
      mul_few = h.mul_few;
      div_few = h.div_few;
      miss = e.sound.miss;
      store = e.sound.store;
      cycle = e.sound.cycle;
      fetch_free = omega (arith, within.fetch, w.cycle, w.fetch_free, miss);
      load_free = omega (arith, within.load, w.cycle, w.load_free, miss);
      store_free = omega (arith, within.store, w.cycle, w.store_free, store);
      fetched = d.fetched;
      loaded = d.loaded;
      fetches = shown.icache;
      loads = shown.dcache;
    }

-- what is in flight
pub in-flight-is : (m : Machine) (r : Parts) (commits : List ℕ) (x : Mips) (numbers : List ℕ) (q : Clock) → IsAt (clocked m r commits) x numbers q
    → max (r.fetch_free - r.cycle) (max (r.load_free - r.cycle) (r.store_free - r.cycle)) ≡ in_flight_of q
unfolding in_flight_of clock_with
in-flight-is m r commits x numbers q h =
    ap (λ (c : Clock). max (c.fetch_free - c.cycle) (max (c.load_free - c.cycle) (c.store_free - c.cycle))) (sym h.clock)

-- what a cycle leaves, for the fast core as contracts see it
pub cycle-at : (m : Machine) (p : Predicts) (r n : Parts) (commits more : List ℕ) (x y : Mips) (before after : List ℕ) (f : Clocked) → clocked m r commits ≡ f
    → ((q : Clock) → Shows r x before q → Shows n y after (cycle_of (speeds_of r) p q).clock)
    → (q : Clock) → IsAt f x before q → IsAt (clocked m n more) y after (cycled_of f.speeds p q).q
unfolding cycled_of
cycle-at m p r n commits more x y before after f e shows q =
    subst (λ (g : Clocked). IsAt g x before q → IsAt (clocked m n more) y after (cycled_of g.speeds p q).q) e
    (λ h. shows-at m n more y after (cycle_of (speeds_of r) p q).clock (shows q (at-shows m r commits x before q h)))

pub cycle-pcs-at : (m : Machine) (p : Predicts) (r : Parts) (commits pcs : List ℕ) (x : Mips) (before : List ℕ) (f : Clocked) → clocked m r commits ≡ f
    → ((q : Clock) → Shows r x before q → pcs ≡ (cycled_of (speeds_of r) p q).pcs)
    → (q : Clock) → IsAt f x before q → pcs ≡ (cycled_of f.speeds p q).pcs
cycle-pcs-at m p r commits pcs x before f e is q =
    subst (λ (g : Clocked). IsAt g x before q → pcs ≡ (cycled_of g.speeds p q).pcs) e (λ h. is q (at-shows m r commits x before q h))

-- the rest is read off the clock that it leaves
pub record Left (s : Speeds) (p : Predicts) (q : Clock) (core : Core) (y : Mips) (after : List ℕ) : Type 0 where
  pub ended : core.ending ≡ (cycled_of s p q).ended
  pub state : y ≡ (cycled_of s p q).q.state
  pub numbers_are : after ≡ (cycled_of s p q).q.numbers

pub cycle-left : (m : Machine) (p : Predicts) (n : Parts) (more : List ℕ) (y : Mips) (after : List ℕ) (s : Speeds) (q : Clock)
    → IsAt (clocked m n more) y after (cycled_of s p q).q → Left s p q n.window y after
unfolding cycled_of clock_with
cycle-left m p n more y after s q h =
    record {
      ended = sym (ap (λ (c : Clock). c.core.ending) h.clock);
      state = sym (ap (λ (c : Clock). c.state) h.clock);
      numbers_are = sym (ap (λ (c : Clock). c.numbers) h.clock);
    }
