-- Strided ranges, as sets of signed numbers. This project's own.
use Rattle.std.specs.Prelude.{ℕ, ℤ, pos, negsuc, ◌-◌, ◌^◌, ◌<◌, ◌+ℤ◌, ◌≤ℤ◌, ◌≡◌, Bool, if◌then◌else◌}
use Rattle.std.specs.Ordering.{int_eq}
use Prim.Native.Nat.{◌∣◌}
use Rattle.range_facts.specs.declared.strided.Strided.{Strided}

-- a number is one of lo, lo + stride, .., hi
pub record Holds (s : Strided) (z : ℤ) : Type 0 where
  pub above : ℕ
  pub place : z ≡ s.lo +ℤ pos above
  pub steps : s.stride ∣ above
  pub below : z ≤ℤ s.hi

-- both ends are values, and signed words; a constant has stride 1
pub record IsFact (s : Strided) : Type 0 where
  pub some : 0 < s.stride
  pub low : negsuc (2 ^ 31 - 1) ≤ℤ s.lo
  pub high : s.hi ≤ℤ pos (2 ^ 31 - 1)
  pub span : ℕ
  pub ends : s.hi ≡ s.lo +ℤ pos span
  pub whole : s.stride ∣ span
  pub single : span ≡ 0 → s.stride ≡ 1

-- each value of the first is one of the second
abbrev pub IsWithin : Strided → Strided → Type 0
IsWithin a b = (z : ℤ) → Holds a z → Holds b z

abbrev pub is_constant : Strided → Bool
is_constant s = int_eq s.lo s.hi

-- lo, lo + stride, .., hi, where a constant has stride 1
abbrev pub range : ℤ → ℤ → ℕ → Strided
range lo hi stride = record { lo = lo; hi = hi; stride = if int_eq lo hi then 1 else stride }

abbrev pub constant : ℤ → Strided
constant z = record { lo = z; hi = z; stride = 1 }

-- 0 to a number
abbrev pub up_to : ℕ → Strided
up_to most = record { lo = pos 0; hi = pos most; stride = 1 }

-- every signed word
abbrev pub unknown : Strided
unknown = record { lo = negsuc (2 ^ 31 - 1); hi = pos (2 ^ 31 - 1); stride = 1 }
