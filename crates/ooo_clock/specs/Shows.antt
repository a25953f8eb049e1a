-- What the fields of a clock stand for. This project's own.
use Rattle.std.specs.Prelude.{◌≡◌, ◌≤◌, ◌^◌, ℕ, Bool, true, false, List, length, is_some, slice_get, Option, Some, None}
use Rattle.std.specs.VecDeque.{deque_capacity}
use Rattle.mips_ref.specs.Mips.{Mips}
use Rattle.cache_lru.specs.Contents.{StandsForAddresses, shape_of}
use Rattle.core_window.specs.Beside.{Stands}
use Rattle.core_window.specs.Events.{attempt}
use Rattle.core_window.specs.declared.records.Event.TheVariants.{Issue}
use Rattle.ooo_clock.specs.Clock.{Clock, Speeds}
use Rattle.ooo_clock.specs.Moves.{Move, finish_due_of, issue_due_of}
use Rattle.ooo_clock.specs.declared.clock.Parts.{Parts}

abbrev pub speeds_of : Parts → Speeds
speeds_of r =
    record {
      width = r.pace.width;
      miss = r.pace.miss;
      store = r.pace.store;
      mul = r.pace.mul;
      div = r.pace.div;
      icache = shape_of r.icache;
      dcache = shape_of r.dcache;
    }

-- the clock, with what the caches were asked for and the predictor's numbers beside it
unfoldable pub clock_of : Parts → Mips → List ℕ → List ℕ → List ℕ → Clock
clock_of r x fetched loaded numbers =
    record {
      cycle = r.cycle;
      fetch_free = r.fetch_free;
      load_free = r.load_free;
      store_free = r.store_free;
      arrived = r.arrived;
      core = r.window;
      times = r.times.items;
      state = x;
      fetched = fetched;
      loaded = loaded;
      numbers = numbers;
    }

-- these parts show a clock
pub record Shows (r : Parts) (x : Mips) (numbers : List ℕ) (q : Clock) : Type 0 where
  pub clock : q ≡ clock_of r x q.fetched q.loaded numbers
  pub icache : StandsForAddresses r.icache q.fetched
  pub dcache : StandsForAddresses r.dcache q.loaded

-- when an entry of the parts is due to finish
abbrev pub over_due : Parts → ℕ → Option ℕ
over_due r k = finish_due_of (slice_get r.window.entries k) (slice_get r.times.items k)

-- when an entry of the parts beside a state is due to be issued
abbrev pub issue_due_in : Parts → Mips → ℕ → Option ℕ
issue_due_in r x k = issue_due_of r.load_free (slice_get r.window.entries k) (slice_get r.times.items k) (is_some (attempt r.window x (Issue k)))

-- with caches that keep their shapes and other fields that stay
pub record Stays (r n : Parts) : Type 0 where
  pub pace : n.pace ≡ r.pace
  pub cycle : n.cycle ≡ r.cycle
  pub icache : shape_of n.icache ≡ shape_of r.icache
  pub dcache : shape_of n.dcache ≡ shape_of r.dcache

-- a move was made, or there was none and nothing changed
abbrev pub Made : Option Move → Bool → Parts → Mips → List ℕ → Clock → Type 0
Made None made r x numbers q = (made ≡ false) × Shows r x numbers q
Made (Some m) made r x numbers q = (made ≡ true) × Shows r x numbers m.clock

-- what holds of the parts beside a state
pub record AreSound (r : Parts) (x : Mips) : Type 0 where
  pub stands : Stands r.window x
  pub times : length r.times.items ≤ length r.window.entries
  pub rob : r.window.rob ≡ r.pace.rob
  pub room : r.window.rob ≤ deque_capacity r.times
  pub cached : r.pace.has_icache ≡ is_some (shape_of r.icache)
  pub miss : r.pace.miss ≤ 100000
  pub store : r.pace.store ≤ 100000
  pub mul : r.pace.mul ≤ 100000
  pub div : r.pace.div ≤ 100000
  pub cycle : r.cycle ≤ 10 ^ 18
