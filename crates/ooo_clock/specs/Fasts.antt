-- The fast core as contracts see it. This project's own.
use Rattle.std.specs.Prelude.{◌≡◌, ◌≤◌, ◌+◌, ◌^◌, ℕ, List, [], Option, Some, None, is_some, length}
use Rattle.std.specs.VecDeque.{deque_capacity}
use Rattle.visa_io.specs.declared.records.Machine.{Machine}
use Rattle.mips_ref.specs.Mips.{Mips}
use Rattle.mips_ref.specs.declared.records.Step.{Step}
use Rattle.cache_lru.specs.Contents.{Contents, StandsForAddresses, shape_of}
use Rattle.core_window.specs.Beside.{Stands}
use Rattle.core_window.specs.Core.{Core, opened}
use Rattle.ooo_clock.specs.Clock.{Clock, Speeds}
use Rattle.ooo_clock.specs.Shows.{speeds_of}
use Rattle.ooo_clock.specs.declared.clock.Parts.{Parts}
use Rattle.ooo_clock.specs.declared.clock.Times.{Times}
use Rattle.ooo_clock.specs.declared.ending.CycleEnd.{CycleEnd}
use Rattle.ooo_clock.specs.declared.ending.CycleEnd.TheVariants.{Went, Ended}

-- its machine, its speeds at the clock period that it was opened with, what stands in it between cycles, and the pcs at which the state
-- stood after each commit of the last cycle whose step went
pub record Clocked : Type 0 where
  pub machine : Machine
  pub speeds : Speeds
  pub cycle : ℕ
  pub fetch_free : ℕ
  pub load_free : ℕ
  pub store_free : ℕ
  pub arrived : Option ℕ
  pub core : Core
  pub times : List Times
  pub icache : Option Contents
  pub dcache : Option Contents
  pub commits : List ℕ

-- with what the caches were asked for since it was opened, newest first
unfoldable pub clock_with : Clocked → Mips → List ℕ → List ℕ → List ℕ → Clock
clock_with f x numbers fetched loaded =
    record {
      cycle = f.cycle;
      fetch_free = f.fetch_free;
      load_free = f.load_free;
      store_free = f.store_free;
      arrived = f.arrived;
      core = f.core;
      times = f.times;
      state = x;
      fetched = fetched;
      loaded = loaded;
      numbers = numbers;
    }

-- this is its clock, beside a state and a predictor's data
pub record IsAt (f : Clocked) (x : Mips) (numbers : List ℕ) (q : Clock) : Type 0 where
  pub clock : q ≡ clock_with f x numbers q.fetched q.loaded
  pub icache : StandsForAddresses f.icache q.fetched
  pub dcache : StandsForAddresses f.dcache q.loaded

-- it stands beside a state: its window does, and hasn't ended
pub record StandsBeside (f : Clocked) (x : Mips) : Type 0 where
  pub stands : Stands f.core x
  pub goes_on : f.core.ending ≡ None

-- what has ended the window, where a cycle ended it
abbrev pub ended_by : CycleEnd → Option Step
ended_by Went = None
ended_by (Ended s) = Some s

-- what is kept of a fast core
abbrev pub clocked : Machine → Parts → List ℕ → Clocked
clocked m r commits =
    record {
      machine = m;
      speeds = speeds_of r;
      cycle = r.cycle;
      fetch_free = r.fetch_free;
      load_free = r.load_free;
      store_free = r.store_free;
      arrived = r.arrived;
      core = r.window;
      times = r.times.items;
      icache = r.icache;
      dcache = r.dcache;
      commits = commits;
    }

-- what holds of it, with room for so many commits
pub record Keeps (m : Machine) (r : Parts) (room : ℕ) : Type 0 where
  pub width : r.pace.width ≡ m.width
  pub rob : r.pace.rob ≡ m.rob
  pub mul : r.pace.mul ≡ m.mul
  pub div : r.pace.div ≡ m.div
  pub cached : r.pace.has_icache ≡ is_some m.icache
  pub icache : shape_of r.icache ≡ m.icache
  pub dcache : shape_of r.dcache ≡ m.dcache
  pub entries : r.window.rob ≡ m.rob
  pub times : length r.times.items ≤ length r.window.entries
  pub capacity : m.rob ≤ deque_capacity r.times
  pub commits : m.width ≤ room
  pub mem_ps : m.mem_ps ≤ 10000000
  pub store_ps : m.store_ps ≤ 10000000
  pub mul_few : m.mul ≤ 32
  pub div_few : m.div ≤ 64
  pub miss : r.pace.miss ≤ 100000
  pub store : r.pace.store ≤ 100000
  pub cycle : r.cycle ≤ 10 ^ 18
  pub fetch_free : r.fetch_free ≤ r.cycle + r.pace.miss
  pub load_free : r.load_free ≤ r.cycle + r.pace.miss
  pub store_free : r.store_free ≤ r.cycle + r.pace.store
  -- what the caches were asked for
  pub fetched : List ℕ
  pub loaded : List ℕ
  pub fetches : StandsForAddresses r.icache fetched
  pub loads : StandsForAddresses r.dcache loaded

-- the parts as they open on a state
pub record IsReset (r n : Parts) (x : Mips) (miss store : ℕ) : Type 0 where
  pub pace : n.pace ≡ record r.pace { miss = miss; store = store }
  pub cycle : n.cycle ≡ 0
  pub fetch_free : n.fetch_free ≡ 0
  pub load_free : n.load_free ≡ 0
  pub store_free : n.store_free ≡ 0
  pub arrived : n.arrived ≡ None
  pub window : n.window ≡ opened r.window.rob x
  pub stands : Stands n.window x
  pub times : n.times.items ≡ []
  pub capacity : deque_capacity n.times ≡ deque_capacity r.times
  pub icache : shape_of n.icache ≡ shape_of r.icache
  pub dcache : shape_of n.dcache ≡ shape_of r.dcache
  pub fetches : StandsForAddresses n.icache []
  pub loads : StandsForAddresses n.dcache []
