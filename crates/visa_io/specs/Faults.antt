-- Counts in 64 bits that never fall and stop at the last number, 2^64 - 1. This project's own.
use Rattle.std.specs.Prelude.{ℕ, zero, suc, ◌+◌, ◌-◌, ◌^◌, ◌≤◌, min}

-- the count one later
abbrev pub risen : ℕ → ℕ
risen count = min (count + 1) (2 ^ 64 - 1)

-- the count so many later
abbrev pub risen_by : ℕ → ℕ → ℕ
risen_by zero count = count
risen_by (suc n) count = risen (risen_by n count)

-- a fault came between two counts: the later one is greater, or stands at the last number
abbrev pub Rose : ℕ → ℕ → Type 0
Rose before later = risen before ≤ later
