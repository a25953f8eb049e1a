-- The clock of the fast mode: what stands when a cycle begins. This project's own.
use Rattle.std.specs.Prelude.{ℕ, ◌-◌, max, List, [], Bool, Option, None}
use Rattle.std.specs.Int.{div_ceil}
use Rattle.mips_isa.specs.declared.instr.Instr.{Instr}
use Rattle.mips_ref.specs.Mips.{Mips}
use Rattle.visa_io.specs.declared.records.Machine.{Machine}
use Rattle.visa_io.specs.declared.records.Shape.{Shape}
use Rattle.core_window.specs.Core.{Core, Pair, opened, paired}
use Rattle.ooo_clock.specs.declared.clock.Times.{Times}

-- the machine at a clock period: how many instructions a cycle commits, issues and fetches, the cycles of a miss, of a store, of a
-- multiplication and of a division, and the caches
pub record Speeds : Type 0 where
  pub width : ℕ
  pub miss : ℕ
  pub store : ℕ
  pub mul : ℕ
  pub div : ℕ
  pub icache : Option Shape
  pub dcache : Option Shape

-- accesses take their times over the period (all ps), rounded up
abbrev pub speeds_at : Machine → ℕ → Speeds
speeds_at m period_ps =
    record {
      width = m.width;
      miss = div_ceil m.mem_ps period_ps;
      store = div_ceil m.store_ps period_ps;
      mul = m.mul;
      div = m.div;
      icache = m.icache;
      dcache = m.dcache;
    }

-- a predictor over its data: what it guesses behind the instruction at an address, the next one's address and the instruction given;
-- and its data after it learnt whether an instruction was taken and where it went
pub record Predicts : Type 0 where
  pub guess : List ℕ → ℕ → ℕ → Instr → ℕ
  pub learnt : List ℕ → ℕ → Instr → Bool → ℕ → List ℕ

-- The number of the cycle; the first cycles in which a fetch, a load and a store may go; a line's address that has arrived without a
-- cache; the window, of each entry its times, and the committed state; the addresses that each cache was asked for, newest first; and
-- the predictor's data.
pub record Clock : Type 0 where
  pub cycle : ℕ
  pub fetch_free : ℕ
  pub load_free : ℕ
  pub store_free : ℕ
  pub arrived : Option ℕ
  pub core : Core
  pub times : List Times
  pub state : Mips
  pub fetched : List ℕ
  pub loaded : List ℕ
  pub numbers : List ℕ

-- the clock at its opening on a state
unfoldable pub opening : ℕ → Mips → List ℕ → Clock
opening rob x numbers =
    record {
      cycle = 0;
      fetch_free = 0;
      load_free = 0;
      store_free = 0;
      arrived = None;
      core = opened rob x;
      times = [];
      state = x;
      fetched = [];
      loaded = [];
      numbers = numbers;
    }

abbrev pub pair_of : Clock → Pair
pair_of q = paired q.core q.state

-- how many cycles accesses that have begun may still take
unfoldable pub in_flight_of : Clock → ℕ
in_flight_of q = max (q.fetch_free - q.cycle) (max (q.load_free - q.cycle) (q.store_free - q.cycle))
