-- What a fetch leaves is what its move leaves.
use Rattle.std.proofs.Common.{◌≡◌, ◌≤◌, ◌<◌, ◌+◌, ℕ, Bool, true, false, cond, eqb, List, [], ◌∷◌, ◌++◌, length, length-append, Option, Some, None, refl, sym, ap, ap₂, ◌∙◌, subst, arith}
use Rattle.std.proofs.lemmas.Grind.{common_steps}
use Rattle.std.specs.Prelude.{◌&&◌, ◌||◌, is_some, nat_le, nat_lt}
use Rattle.std.specs.VecDeque.{deque_capacity}
use Rattle.mips_isa.specs.Decoding.{decode_of}
use Rattle.mips_isa.specs.Kinds.{branch_kind, is_control, jump_kind, kind_of}
use Rattle.mips_isa.specs.Words.{word_sum}
use Rattle.mips_isa.specs.declared.instr.Branch1Op.{Branch1Op}
use Rattle.mips_isa.specs.declared.instr.Branch1Op.TheVariants.{Bgezal}
use Rattle.mips_isa.specs.declared.instr.Instr.{Instr}
use Rattle.mips_isa.specs.declared.instr.Instr.TheVariants.{Branch1, Jump}
use Rattle.mips_isa.specs.declared.instr.JumpOp.{JumpOp}
use Rattle.mips_isa.specs.declared.instr.JumpOp.TheVariants.{J, Jal}
use Rattle.mips_isa.specs.declared.instr.Kind.TheVariants.{Branch, Call}
use Rattle.mips_ref.specs.Memory.{code_word_at}
use Rattle.mips_ref.specs.Mips.{Mips}
use Rattle.cache_lru.specs.Contents.{Contents, StandsForAddresses, shape_of}
use Rattle.cache_lru.specs.Recency.{hits_at}
use Rattle.core_window.specs.Beside.{Stands}
use Rattle.core_window.specs.Core.{Core, Pair, paired}
use Rattle.core_window.specs.Events.{attempt, beside, fetched, happens, is_open, may_guess, or_same, takes, with_entry}
use Rattle.core_window.specs.declared.records.Event.TheVariants.{Fetch}
use Rattle.ooo_clock.proofs.Committed.{is-none, made-none, made-some, some-of}
use Rattle.ooo_clock.proofs.Finished.{AppliedAs, attempt-is, made-as}
use Rattle.ooo_clock.proofs.Performs.{fetch-state}
use Rattle.ooo_clock.specs.Clock.{Clock, Predicts, Speeds}
use Rattle.ooo_clock.specs.Moves.{Move, enters, fetch_by, fetch_first, fetch_move, guess_at, guess_by, guess_instr, guess_kind, guess_word, is_due, is_there, misses, own_address}
use Rattle.ooo_clock.specs.Shows.{AreSound, Made, Shows, Stays, clock_of, speeds_of}
use Rattle.ooo_clock.specs.declared.clock.Parts.{Parts}
use Rattle.ooo_clock.specs.declared.clock.Times.{Times}

-- the guess lets its instruction in
branch-controls : (m : Branch1Op) (rs : ℕ) → is_control (branch_kind m rs) ≡ true
branch-controls Bgezal rs = by (eqb rs 0)
  where
    by : (b : Bool) → is_control (cond b Call Branch) ≡ true
    by true = refl
    by false = refl
branch-controls m rs = refl

jump-controls : (m : JumpOp) → is_control (jump_kind m) ≡ true
jump-controls J = refl
jump-controls Jal = refl

own-controls : (i : Instr) (pc target : ℕ) → own_address i pc ≡ Some target → is_control (kind_of i) ≡ true
unfolding kind_of
own-controls (Jump m at) pc target e = jump-controls m
own-controls (Branch1 m rs off) pc target e = branch-controls m rs
own-controls i pc target e = cc

same-word : (w : ℕ) → eqb w w ≡ true
same-word w = grind (arith, common_steps)

or-left : (a b : Bool) → a ≡ true → (a || b) ≡ true
or-left true b e = refl
or-left false b e = cc

or-right : (a b : Bool) → b ≡ true → (a || b) ≡ true
or-right true b e = refl
or-right false b e = e

guess-control : (p : Predicts) (numbers : List ℕ) (pc npc : ℕ) (i : Instr) (b : Bool) → is_control (kind_of i) ≡ b
    → (is_control (kind_of i) || eqb (guess_kind p numbers pc npc i b) (word_sum npc 4)) ≡ true
guess-control p numbers pc npc i true e = or-left (is_control (kind_of i)) _ e
guess-control p numbers pc npc i false e = or-right (is_control (kind_of i)) _ (same-word (word_sum npc 4))

guess-own : (p : Predicts) (numbers : List ℕ) (pc npc : ℕ) (i : Instr) (o : Option ℕ) → own_address i pc ≡ o
    → (is_control (kind_of i) || eqb (guess_by p numbers pc npc i o) (word_sum npc 4)) ≡ true
guess-own p numbers pc npc i (Some target) e = or-left (is_control (kind_of i)) _ (own-controls i pc target e)
guess-own p numbers pc npc i None e = guess-control p numbers pc npc i (is_control (kind_of i)) refl

guess-fits : (p : Predicts) (numbers : List ℕ) (pc npc : ℕ) (o : Option Instr) → may_guess o npc (guess_instr p numbers pc npc o) ≡ true
guess-fits p numbers pc npc None = same-word (word_sum npc 4)
guess-fits p numbers pc npc (Some i) = guess-own p numbers pc npc i (own_address i pc) refl

-- when a fetch is enabled
abbrev has_room : Core → Bool
has_room c = is_open c.ending && nat_lt (length c.entries) c.rob

taken : (x : Mips) (b : Bool) (d : Core) → is_some (beside x (cond b (Some d) None)) ≡ b
taken x true d = refl
taken x false d = refl

and-last : (a b m : Bool) → m ≡ true → (a && (b && m)) ≡ (a && b)
and-last true true m e = e
and-last true false m e = refl
and-last false b m e = refl

and-first : (a b m : Bool) → (a && b) ≡ false → (a && (b && m)) ≡ false
and-first true true m e = cc
and-first true false m e = refl
and-first false b m e = refl

pub fetch-enabled : (p : Predicts) (numbers : List ℕ) (c : Core) (x : Mips) (word : ℕ) → code_word_at x.memory c.fetch_pc ≡ Some word
    → is_some (attempt c x (Fetch (guess_word p numbers c.fetch_pc c.fetch_next (Some word)))) ≡ (is_open c.ending && nat_lt (length c.entries) c.rob)
unfolding attempt
fetch-enabled p numbers c x word e =
    let i = decode_of word in
    let guess = guess_instr p numbers c.fetch_pc c.fetch_next i in
    ap (λ o. is_some (beside x (fetched c guess o))) e ∙ taken x (takes c guess i) (with_entry c guess i)
    ∙ and-last (is_open c.ending) (nat_lt (length c.entries) c.rob) (may_guess i c.fetch_next guess) (guess-fits p numbers c.fetch_pc c.fetch_next i)

full-by : (c : Core) (x : Mips) (guess : ℕ) (o : Option ℕ) → has_room c ≡ false → is_some (beside x (fetched c guess o)) ≡ false
full-by c x guess None e = refl
full-by c x guess (Some word) e =
    taken x (takes c guess (decode_of word)) (with_entry c guess (decode_of word))
    ∙ and-first (is_open c.ending) (nat_lt (length c.entries) c.rob) (may_guess (decode_of word) c.fetch_next guess) e

pub full : (c : Core) (x : Mips) (guess : ℕ) → (is_open c.ending && nat_lt (length c.entries) c.rob) ≡ false → is_some (attempt c x (Fetch guess)) ≡ false
unfolding attempt
full c x guess e = full-by c x guess (code_word_at x.memory c.fetch_pc) e

pub no-code : (c : Core) (x : Mips) (guess : ℕ) → code_word_at x.memory c.fetch_pc ≡ None → is_some (attempt c x (Fetch guess)) ≡ false
unfolding attempt
no-code c x guess e = ap (λ o. is_some (beside x (fetched c guess o))) e

-- what a fetch leaves of the window
pub record Entered (c d : Core) : Type 0 where
  pub rob : d.rob ≡ c.rob
  pub entries : length d.entries ≡ length c.entries + 1

entered-if : (c : Core) (x : Mips) (b : Bool) (d : Core) (after : Pair) → Entered c d → beside x (cond b (Some d) None) ≡ Some after → Entered c after.core
entered-if c x true d after h e = let is : paired d x ≡ after = cc in subst (λ (p : Pair). Entered c p.core) is h
entered-if c x false d after h e = cc

entered-by : (c : Core) (x : Mips) (guess : ℕ) (o : Option ℕ) (after : Pair) → beside x (fetched c guess o) ≡ Some after → Entered c after.core
entered-by c x guess None after e = cc
entered-by c x guess (Some word) after e =
    let i = decode_of word in
    entered-if c x (takes c guess i) (with_entry c guess i) after (record { rob = refl; entries = length-append c.entries _ }) e

pub fetch-entered : (c : Core) (x : Mips) (guess : ℕ) (after : Pair) → attempt c x (Fetch guess) ≡ Some after → Entered c after.core
unfolding attempt
fetch-entered c x guess after e = entered-by c x guess (code_word_at x.memory c.fetch_pc) after e

room-by : (c : Core) (x : Mips) (guess : ℕ) (b : Bool) → has_room c ≡ b → is_some (attempt c x (Fetch guess)) ≡ true → length c.entries < c.rob
room-by c x guess true e h = by (is_open c.ending) (nat_lt (length c.entries) c.rob) refl e
  where
    by : (a t : Bool) → nat_lt (length c.entries) c.rob ≡ t → (a && t) ≡ true → length c.entries < c.rob
    by true true is both = grind (arith, common_steps, is)
    by true false is both = cc
    by false t is both = cc
room-by c x guess false e h = let none = full c x guess e in cc

pub fetch-room : (c : Core) (x : Mips) (guess : ℕ) → is_some (attempt c x (Fetch guess)) ≡ true → length c.entries < c.rob
fetch-room c x guess h = room-by c x guess (has_room c) refl h

-- parts that stay sound
pub sound-with : (r n : Parts) (x y : Mips) → AreSound r x → Stands n.window y → length n.times.items ≤ length n.window.entries
    → n.window.rob ≡ r.window.rob → deque_capacity n.times ≡ deque_capacity r.times → Stays r n → AreSound n y
sound-with r n x y h stands times rob capacity stays =
    record {
      stands = stands;
      times = times;
      rob = rob ∙ h.rob ∙ ap (λ t. t.rob) (sym stays.pace);
      room = omega (arith, h.room, rob, capacity);
      cached = ap (λ t. t.has_icache) stays.pace ∙ h.cached ∙ ap is_some (sym stays.icache);
      miss = omega (arith, h.miss, ap (λ t. t.miss) stays.pace);
      store = omega (arith, h.store, ap (λ t. t.store) stays.pace);
      mul = omega (arith, h.mul, ap (λ t. t.mul) stays.pace);
      div = omega (arith, h.div, ap (λ t. t.div) stays.pace);
      cycle = omega (arith, h.cycle, stays.cycle);
    }

pub entered-sound : (r n : Parts) (x y : Mips) (guess : ℕ) → AreSound r x → AppliedAs r.window x (Fetch guess) true n.window y
    → length n.times.items ≡ length r.times.items + 1 → deque_capacity n.times ≡ deque_capacity r.times → Stays r n → AreSound n y
entered-sound r n x y guess h a times capacity stays =
    let m = made-as r.window x (Fetch guess) n.window y a in
    let e = fetch-entered r.window x guess m.after m.attempted in
    let entries : length n.window.entries ≡ length r.window.entries + 1 = ap (λ (c : Core). length c.entries) m.core ∙ e.entries in
    sound-with r n x y h a.stands (omega (arith, h.times, times, entries)) (ap (λ (c : Core). c.rob) m.core ∙ e.rob) capacity stays

-- the clock with another window, other times and other words of the fetch
pub with-fetch : Clock → Core → List Times → ℕ → Option ℕ → List ℕ → Clock
with-fetch q core times fetch_free arrived fetched =
    record q { core = core; times = times; fetch_free = fetch_free; arrived = arrived; fetched = fetched }

pub record FetchedTo (r n : Parts) (core : Core) (times : List Times) (fetch_free : ℕ) (arrived : Option ℕ) (icache : Option Contents) : Type 0 where
  pub parts : n ≡ record r { window = n.window; times = n.times; fetch_free = fetch_free; arrived = arrived; icache = icache }
  pub core_is : n.window ≡ core
  pub times_are : n.times.items ≡ times

fetched-clock : (r n : Parts) (x y : Mips) (numbers fetched loaded more : List ℕ) (core : Core) (times : List Times) (fetch_free : ℕ) (arrived : Option ℕ)
    (icache : Option Contents) → y ≡ x → FetchedTo r n core times fetch_free arrived icache
    → with-fetch (clock_of r x fetched loaded numbers) core times fetch_free arrived more ≡ clock_of n y more loaded numbers
unfolding clock_of with-fetch
fetched-clock r n x y numbers fetched loaded more core times fetch_free arrived icache state g =
    let cycle : r.cycle ≡ n.cycle = ap (λ (t : Parts). t.cycle) (sym g.parts) in
    let free : fetch_free ≡ n.fetch_free = ap (λ (t : Parts). t.fetch_free) (sym g.parts) in
    let load_free : r.load_free ≡ n.load_free = ap (λ (t : Parts). t.load_free) (sym g.parts) in
    let store_free : r.store_free ≡ n.store_free = ap (λ (t : Parts). t.store_free) (sym g.parts) in
    let there : arrived ≡ n.arrived = ap (λ (t : Parts). t.arrived) (sym g.parts) in
    λ i. record {
      cycle = cycle i;
      fetch_free = free i;
      load_free = load_free i;
      store_free = store_free i;
      arrived = there i;
      core = sym g.core_is i;
      times = sym g.times_are i;
      state = sym state i;
      fetched = more;
      loaded = loaded;
      numbers = numbers;
    }

pub fetched-shows : (r n : Parts) (x y : Mips) (numbers more : List ℕ) (q : Clock) (core : Core) (times : List Times) (fetch_free : ℕ) (arrived : Option ℕ)
    (icache : Option Contents) → Shows r x numbers q → y ≡ x → FetchedTo r n core times fetch_free arrived icache → StandsForAddresses icache more
    → Shows n y numbers (with-fetch q core times fetch_free arrived more)
unfolding with-fetch
fetched-shows r n x y numbers more q core times fetch_free arrived icache h state g stands =
    record {
      clock = ap (λ c. with-fetch c core times fetch_free arrived more) h.clock
          ∙ fetched-clock r n x y numbers q.fetched q.loaded more core times fetch_free arrived icache state g;
      icache = subst (λ m. StandsForAddresses m more) (sym (ap (λ (t : Parts). t.icache) g.parts)) stands;
      dcache = subst (λ m. StandsForAddresses m q.loaded) (sym (ap (λ (t : Parts). t.dcache) g.parts)) h.dcache;
    }

-- the words that a fetch reads
pub record FetchWords (r : Parts) (q : Clock) : Type 0 where
  pub cycle : q.cycle ≡ r.cycle
  pub fetch_free : q.fetch_free ≡ r.fetch_free
  pub arrived : q.arrived ≡ r.arrived
  pub core : q.core ≡ r.window
  pub times : q.times ≡ r.times.items
  pub pc : q.core.fetch_pc ≡ r.window.fetch_pc

pub fetch-words : (r : Parts) (x : Mips) (numbers : List ℕ) (q : Clock) → Shows r x numbers q → FetchWords r q
unfolding clock_of
fetch-words r x numbers q h =
    record {
      cycle = ap (λ (c : Clock). c.cycle) h.clock;
      fetch_free = ap (λ (c : Clock). c.fetch_free) h.clock;
      arrived = ap (λ (c : Clock). c.arrived) h.clock;
      core = ap (λ (c : Clock). c.core) h.clock;
      times = ap (λ (c : Clock). c.times) h.clock;
      pc = ap (λ (c : Clock). c.core.fetch_pc) h.clock;
    }

abbrev pub entry-times : List Times → ℕ → List Times
entry-times times cycle = times ++ record { fetched = cycle; ends = 0 } ∷ []

enters-as : (r : Parts) (q : Clock) (guess : ℕ) (core : Core) (arrived : Option ℕ) (more other : List ℕ) → FetchWords r q → more ≡ other
    → with-fetch q core (entry-times r.times.items r.cycle) r.fetch_free arrived more ≡ (enters q guess core arrived other).clock
unfolding with-fetch
enters-as r q guess core arrived more other w e =
    let times : entry-times r.times.items r.cycle ≡ entry-times q.times q.cycle = ap₂ entry-times (sym w.times) (sym w.cycle) in
    let free : r.fetch_free ≡ q.fetch_free = sym w.fetch_free in
    λ i. with-fetch q core (times i) (free i) arrived (e i)

misses-as : (r : Parts) (q : Clock) (arrived : Option ℕ) (more other : List ℕ) → FetchWords r q → more ≡ other
    → with-fetch q r.window r.times.items (r.cycle + r.pace.miss) arrived more ≡ (misses (speeds_of r) q arrived other).clock
unfolding with-fetch
misses-as r q arrived more other w e =
    let core : r.window ≡ q.core = sym w.core in
    let times : r.times.items ≡ q.times = sym w.times in
    let free : r.cycle + r.pace.miss ≡ q.cycle + r.pace.miss = ap (λ c. c + r.pace.miss) (sym w.cycle) in
    λ i. with-fetch q (core i) (times i) (free i) arrived (e i)

-- with a cache
cached-as : (r : Parts) (q : Clock) (guess : ℕ) (core : Core) (b : Bool) → FetchWords r q
    → hits_at (shape_of r.icache) r.window.fetch_pc q.fetched ≡ b → fetch_by (speeds_of r) q guess core true
    ≡ cond b (enters q guess core q.arrived (q.core.fetch_pc ∷ q.fetched)) (misses (speeds_of r) q q.arrived (q.core.fetch_pc ∷ q.fetched))
cached-as r q guess core b w hit =
    ap (λ t. cond t (enters q guess core q.arrived (q.core.fetch_pc ∷ q.fetched)) (misses (speeds_of r) q q.arrived (q.core.fetch_pc ∷ q.fetched)))
    (ap (λ a. hits_at (shape_of r.icache) a q.fetched) w.pc ∙ hit)

pub cached-hit : (r n : Parts) (x y : Mips) (numbers : List ℕ) (q : Clock) (guess : ℕ) (core : Core) (icache : Option Contents) → Shows r x numbers q
    → y ≡ x → hits_at (shape_of r.icache) r.window.fetch_pc q.fetched ≡ true
    → FetchedTo r n core (entry-times r.times.items r.cycle) r.fetch_free r.arrived icache
    → StandsForAddresses icache (r.window.fetch_pc ∷ q.fetched) → Shows n y numbers (fetch_by (speeds_of r) q guess core true).clock
cached-hit r n x y numbers q guess core icache h state hit g stands =
    let w = fetch-words r x numbers q h in
    let shown = fetched-shows r n x y numbers (r.window.fetch_pc ∷ q.fetched) q core (entry-times r.times.items r.cycle) r.fetch_free r.arrived icache h state g stands in
    let moved : Shows n y numbers (with-fetch q core (entry-times r.times.items r.cycle) r.fetch_free q.arrived (r.window.fetch_pc ∷ q.fetched)) =
    subst (λ a. Shows n y numbers (with-fetch q core (entry-times r.times.items r.cycle) r.fetch_free a (r.window.fetch_pc ∷ q.fetched))) (sym w.arrived) shown in
    subst (Shows n y numbers)
    (enters-as r q guess core q.arrived (r.window.fetch_pc ∷ q.fetched) (q.core.fetch_pc ∷ q.fetched) w (ap (λ a. a ∷ q.fetched) (sym w.pc))
    ∙ ap (λ (m : Move). m.clock) (sym (cached-as r q guess core true w hit))) moved

pub cached-miss : (r n : Parts) (x : Mips) (numbers : List ℕ) (q : Clock) (guess : ℕ) (core : Core) (icache : Option Contents) → Shows r x numbers q
    → hits_at (shape_of r.icache) r.window.fetch_pc q.fetched ≡ false
    → n ≡ record r { fetch_free = r.cycle + r.pace.miss; icache = icache }
    → StandsForAddresses icache (r.window.fetch_pc ∷ q.fetched) → Shows n x numbers (fetch_by (speeds_of r) q guess core true).clock
cached-miss r n x numbers q guess core icache h hit parts stands =
    let w = fetch-words r x numbers q h in
    let window : r.window ≡ n.window = ap (λ (t : Parts). t.window) (sym parts) in
    let times = ap (λ (t : Parts). t.times) (sym parts) in
    let g : FetchedTo r n r.window r.times.items (r.cycle + r.pace.miss) q.arrived icache =
    record {
      parts = parts ∙ (λ i. record r { window = window i; times = times i; fetch_free = r.cycle + r.pace.miss; arrived = sym w.arrived i; icache = icache });
      core_is = sym window;
      times_are = ap (λ (t : Parts). t.times.items) parts;
    } in
    let shown = fetched-shows r n x x numbers (r.window.fetch_pc ∷ q.fetched) q r.window r.times.items (r.cycle + r.pace.miss) q.arrived icache h refl g stands in
    subst (Shows n x numbers)
    (misses-as r q q.arrived (r.window.fetch_pc ∷ q.fetched) (q.core.fetch_pc ∷ q.fetched) w (ap (λ a. a ∷ q.fetched) (sym w.pc))
    ∙ ap (λ (m : Move). m.clock) (sym (cached-as r q guess core false w hit))) shown

-- without one
uncached-as : (r : Parts) (q : Clock) (guess : ℕ) (core : Core) (b : Bool) → FetchWords r q → is_there r.arrived r.window.fetch_pc ≡ b
    → fetch_by (speeds_of r) q guess core false ≡ cond b (enters q guess core None q.fetched) (misses (speeds_of r) q (Some q.core.fetch_pc) q.fetched)
uncached-as r q guess core b w there =
    ap (λ t. cond t (enters q guess core None q.fetched) (misses (speeds_of r) q (Some q.core.fetch_pc) q.fetched))
    (ap₂ is_there w.arrived w.pc ∙ there)

pub uncached-there : (r n : Parts) (x y : Mips) (numbers : List ℕ) (q : Clock) (guess : ℕ) (core : Core) → Shows r x numbers q
    → y ≡ x → is_there r.arrived r.window.fetch_pc ≡ true
    → FetchedTo r n core (entry-times r.times.items r.cycle) r.fetch_free None r.icache
    → Shows n y numbers (fetch_by (speeds_of r) q guess core false).clock
uncached-there r n x y numbers q guess core h state there g =
    let w = fetch-words r x numbers q h in
    let shown = fetched-shows r n x y numbers q.fetched q core (entry-times r.times.items r.cycle) r.fetch_free None r.icache h state g h.icache in
    subst (Shows n y numbers)
    (enters-as r q guess core None q.fetched q.fetched w refl ∙ ap (λ (m : Move). m.clock) (sym (uncached-as r q guess core true w there))) shown

pub uncached-away : (r n : Parts) (x : Mips) (numbers : List ℕ) (q : Clock) (guess : ℕ) (core : Core) → Shows r x numbers q
    → is_there r.arrived r.window.fetch_pc ≡ false → n ≡ record r { fetch_free = r.cycle + r.pace.miss; arrived = Some r.window.fetch_pc }
    → Shows n x numbers (fetch_by (speeds_of r) q guess core false).clock
uncached-away r n x numbers q guess core h there parts =
    let w = fetch-words r x numbers q h in
    let window : r.window ≡ n.window = ap (λ (t : Parts). t.window) (sym parts) in
    let times = ap (λ (t : Parts). t.times) (sym parts) in
    let pc : ◌≡◌ {A = Option ℕ} (Some r.window.fetch_pc) (Some q.core.fetch_pc) = ap (λ a. Some a) (sym w.pc) in
    let g : FetchedTo r n r.window r.times.items (r.cycle + r.pace.miss) (Some q.core.fetch_pc) r.icache =
    record {
      parts = parts ∙ (λ i. record r { window = window i; times = times i; fetch_free = r.cycle + r.pace.miss; arrived = pc i });
      core_is = sym window;
      times_are = ap (λ (t : Parts). t.times.items) parts;
    } in
    let shown = fetched-shows r n x x numbers q.fetched q r.window r.times.items (r.cycle + r.pace.miss) (Some q.core.fetch_pc) r.icache h refl g h.icache in
    subst (Shows n x numbers)
    (misses-as r q (Some q.core.fetch_pc) q.fetched q.fetched w refl ∙ ap (λ (m : Move). m.clock) (sym (uncached-as r q guess core false w there))) shown

-- the move
due-if : (b : Bool) (free cycle : ℕ) → is_due (cond b (Some free) None) cycle ≡ (b && nat_le free cycle)
due-if true free cycle = refl
due-if false free cycle = refl

and-false : (b c : Bool) → c ≡ false → (b && c) ≡ false
and-false true c e = e
and-false false c e = refl

fetch-as : (s : Speeds) (p : Predicts) (q : Clock)
    → fetch_move s p q ≡ cond (is_some (attempt q.core q.state (Fetch (guess_at p q))) && nat_le q.fetch_free q.cycle)
    (fetch_first s q (guess_at p q) (attempt q.core q.state (Fetch (guess_at p q)))) None
unfolding fetch_move
fetch-as s p q =
    ap (λ b. cond b (fetch_first s q (guess_at p q) (attempt q.core q.state (Fetch (guess_at p q)))) None)
    (due-if (is_some (attempt q.core q.state (Fetch (guess_at p q)))) q.fetch_free q.cycle)

free-same : (r : Parts) (x : Mips) (numbers : List ℕ) (q : Clock) → Shows r x numbers q → nat_le q.fetch_free q.cycle ≡ nat_le r.fetch_free r.cycle
unfolding clock_of
free-same r x numbers q h = ap (λ (c : Clock). nat_le c.fetch_free c.cycle) h.clock

pub fetch-early : (p : Predicts) (r : Parts) (x : Mips) (numbers : List ℕ) (q : Clock) → Shows r x numbers q → nat_le r.fetch_free r.cycle ≡ false
    → Made (fetch_move (speeds_of r) p q) false r x numbers q
fetch-early p r x numbers q h early =
    made-none (fetch_move (speeds_of r) p q) r x numbers q
    (fetch-as (speeds_of r) p q ∙ ap (λ b. cond b (fetch_first (speeds_of r) q (guess_at p q) (attempt q.core q.state (Fetch (guess_at p q)))) None)
    (and-false (is_some (attempt q.core q.state (Fetch (guess_at p q)))) (nat_le q.fetch_free q.cycle) (free-same r x numbers q h ∙ early))) h

pub fetch-refused : (p : Predicts) (r : Parts) (x : Mips) (numbers : List ℕ) (q : Clock) → Shows r x numbers q
    → ((guess : ℕ) → is_some (attempt r.window x (Fetch guess)) ≡ false) → Made (fetch_move (speeds_of r) p q) false r x numbers q
fetch-refused p r x numbers q h refused =
    let none : attempt q.core q.state (Fetch (guess_at p q)) ≡ None =
    attempt-is r x numbers q (Fetch (guess_at p q)) h ∙ is-none (attempt r.window x (Fetch (guess_at p q))) (refused (guess_at p q)) in
    made-none (fetch_move (speeds_of r) p q) r x numbers q
    (fetch-as (speeds_of r) p q ∙ ap (λ o. cond (is_some o && nat_le q.fetch_free q.cycle) (fetch_first (speeds_of r) q (guess_at p q) o) None) none) h

guess-same : (p : Predicts) (r : Parts) (x : Mips) (numbers : List ℕ) (q : Clock) → Shows r x numbers q
    → guess_at p q ≡ guess_word p numbers r.window.fetch_pc r.window.fetch_next (code_word_at x.memory r.window.fetch_pc)
unfolding clock_of
guess-same p r x numbers q h = ap (guess_at p) h.clock

happens-core : (c : Core) (x : Mips) (guess : ℕ) (after : Pair) → attempt c x (Fetch guess) ≡ Some after → (happens (paired c x) (Fetch guess)).core ≡ after.core
unfolding happens
happens-core c x guess after e = ap (λ o. (or_same (paired c x) o).core) e

pub fetch-made : (p : Predicts) (r n : Parts) (x y : Mips) (numbers : List ℕ) (q : Clock) (word guess : ℕ) → Shows r x numbers q
    → nat_le r.fetch_free r.cycle ≡ true → code_word_at x.memory r.window.fetch_pc ≡ Some word
    → guess ≡ guess_word p numbers r.window.fetch_pc r.window.fetch_next (Some word) → is_some (attempt r.window x (Fetch guess)) ≡ true
    → Shows n y numbers (fetch_by (speeds_of r) q guess (happens (paired r.window x) (Fetch guess)).core (is_some (shape_of r.icache))).clock
    → Made (fetch_move (speeds_of r) p q) true n y numbers q
fetch-made p r n x y numbers q word guess h free code is enabled shown =
    let s = speeds_of r in
    let here : guess_at p q ≡ guess =
    guess-same p r x numbers q h ∙ ap (guess_word p numbers r.window.fetch_pc r.window.fetch_next) code ∙ sym is in
    let made = some-of (attempt r.window x (Fetch guess)) enabled in
    let there : attempt q.core q.state (Fetch guess) ≡ Some made.0 = attempt-is r x numbers q (Fetch guess) h ∙ made.1 in
    let core = happens-core r.window x guess made.0 made.1 in
    let move : fetch_move s p q ≡ Some (fetch_by s q guess made.0.core (is_some s.icache)) =
    fetch-as s p q ∙ ap (λ g. cond (is_some (attempt q.core q.state (Fetch g)) && nat_le q.fetch_free q.cycle) (fetch_first s q g (attempt q.core q.state (Fetch g))) None) here
    ∙ ap (λ o. cond (is_some o && nat_le q.fetch_free q.cycle) (fetch_first s q guess o) None) there
    ∙ ap (λ b. cond b (fetch_first s q guess (Some made.0)) None) (free-same r x numbers q h ∙ free) in
    made-some (fetch_move s p q) (fetch_by s q guess made.0.core (is_some s.icache)) n y numbers q move
    (subst (λ c. Shows n y numbers (fetch_by s q guess c (is_some s.icache)).clock) core shown)

-- the same by what a caller read of the window
pub guess-as : (p : Predicts) (numbers : List ℕ) (c : Core) (word pc npc guess : ℕ) → pc ≡ c.fetch_pc → npc ≡ c.fetch_next
    → guess ≡ guess_word p numbers pc npc (Some word) → guess ≡ guess_word p numbers c.fetch_pc c.fetch_next (Some word)
guess-as p numbers c word pc npc guess at next is = is ∙ ap₂ (λ a b. guess_word p numbers a b (Some word)) at next

pub fetch-enabled-as : (p : Predicts) (numbers : List ℕ) (c : Core) (x : Mips) (word pc npc guess : ℕ) → code_word_at x.memory c.fetch_pc ≡ Some word
    → pc ≡ c.fetch_pc → npc ≡ c.fetch_next → guess ≡ guess_word p numbers pc npc (Some word)
    → (is_open c.ending && nat_lt (length c.entries) c.rob) ≡ true → is_some (attempt c x (Fetch guess)) ≡ true
fetch-enabled-as p numbers c x word pc npc guess code at next is room =
    ap (λ g. is_some (attempt c x (Fetch g))) (guess-as p numbers c word pc npc guess at next is) ∙ fetch-enabled p numbers c x word code ∙ room

pub fetch-left : (c : Core) (x : Mips) (guess : ℕ) (d : Core) (y : Mips) → AppliedAs c x (Fetch guess) true d y → y ≡ x
fetch-left c x guess d y a =
    let m = made-as c x (Fetch guess) d y a in m.state ∙ fetch-state c x guess m.after m.attempted
