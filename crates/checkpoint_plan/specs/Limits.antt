-- What bounds and periods keep. This project's own.
use Rattle.std.specs.Prelude.{◌≤◌, ℕ, ◌^◌, List, length, All}

-- one to 32 bounds of sub-tasks, each at most 10^18 cycles
pub record AreBounds (bounds : List ℕ) : Type 0 where
  pub few : length bounds ≤ 32
  pub each : All (λ n. n ≤ 10 ^ 18) bounds

-- a clock period, ps
pub record IsPeriod (p : ℕ) : Type 0 where
  pub least : 100 ≤ p
  pub most : p ≤ 10 ^ 6
