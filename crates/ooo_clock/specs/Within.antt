-- What the clock keeps from cycle to cycle. This project's own.
use Rattle.std.specs.Prelude.{◌≤◌, ◌+◌, ℕ}
use Rattle.ooo_clock.specs.Clock.{Clock, Speeds}

-- no access is held back beyond a miss or a store from a cycle on
pub record IsWithinFrom (s : Speeds) (n : ℕ) (q : Clock) : Type 0 where
  pub fetch : q.fetch_free ≤ n + s.miss
  pub load : q.load_free ≤ n + s.miss
  pub store : q.store_free ≤ n + s.store

abbrev pub IsWithin : Speeds → Clock → Type 0
IsWithin s q = IsWithinFrom s q.cycle q
