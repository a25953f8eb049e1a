-- What a condition leaves of a strided range. This project's own.
use Rattle.std.specs.Prelude.{ℕ, ℤ, pos, ◌*◌, ◌/◌, ◌%◌, ◌+ℤ◌, ◌-ℤ◌, ◌≤ℤ◌, ◌≡◌, ◌≢◌, ◌⊎◌, Bool, ◌&&◌, ◌==◌, if◌then◌else◌, int_le, int_lt, unsigned_abs, Option, Some, None}
use Rattle.std.specs.Ordering.{int_eq}
use Rattle.range_facts.specs.Ranges.{Holds, IsFact, constant, range}
use Rattle.range_facts.specs.declared.strided.Strided.{Strided}
use Rattle.range_facts.specs.declared.strided.Cond.{Cond}
use Rattle.range_facts.specs.declared.strided.Cond.TheVariants.{Eq, Ne, AtMost, AtLeast}

-- a number meets a condition
abbrev pub Meets : Cond → ℤ → Type 0
Meets (Eq c) z = z ≡ c
Meets (Ne c) z = z ≢ c
Meets (AtMost c) z = z ≤ℤ c
Meets (AtLeast c) z = c ≤ℤ z

-- a value of a range stays: it meets the condition; but Ne takes away an end alone, since a range has no holes
abbrev pub Stays : Strided → Cond → ℤ → Type 0
Stays s (Eq c) z = Meets (Eq c) z
Stays s (Ne c) z = Meets (Ne c) z ⊎ ((c ≢ s.lo) × (c ≢ s.hi))
Stays s (AtMost c) z = Meets (AtMost c) z
Stays s (AtLeast c) z = Meets (AtLeast c) z

-- the second range has the values of the first that pass, and no others
pub record IsLeft (s : Strided) (P : ℤ → Type 0) (r : Strided) : Type 0 where
  pub fact : IsFact r
  pub kept : (z : ℤ) → Holds s z → P z → Holds r z
  pub inside : (z : ℤ) → Holds r z → Holds s z
  pub only : (z : ℤ) → Holds r z → P z

-- what is left of a range, None where no value passes
abbrev pub Leaves : Strided → (ℤ → Type 0) → Option Strided → Type 0
Leaves s P None = (z : ℤ) → Holds s z → ¬ (P z)
Leaves s P (Some r) = IsLeft s P r

-- some value of a range meets a condition
abbrev pub SomeMeets : Strided → Cond → Type 0
SomeMeets s c = (z : ℤ) × Holds s z × Meets c z

-- the greatest whole number of strides that goes into a distance
abbrev pub whole : ℕ → ℕ → ℕ
whole distance stride = distance / stride * stride

abbrev pub distance : ℤ → ℤ → ℕ
distance from to = unsigned_abs (to -ℤ from)

-- cut from above to the last value that is at most c
unfoldable pub cut_above : Strided → ℤ → Option Strided
cut_above s c =
    if int_lt c s.lo then None
    else (if int_le s.hi c then Some s else Some (range s.lo (s.lo +ℤ pos (whole (distance s.lo c) s.stride)) s.stride))

-- cut from below to the first value that is at least c
unfoldable pub cut_below : Strided → ℤ → Option Strided
cut_below s c =
    if int_lt s.hi c then None
    else (if int_le c s.lo then Some s else Some (range (s.hi -ℤ pos (whole (distance c s.hi) s.stride)) s.hi s.stride))

-- a number is a value of a range
unfoldable pub has : Strided → ℤ → Bool
has s c = int_le s.lo c && int_le c s.hi && (distance s.lo c % s.stride == 0)

-- the numbers of what is left
unfoldable pub left_of : Strided → Cond → Option Strided
left_of s (Eq c) = if has s c then Some (constant c) else None
left_of s (Ne c) =
    if int_eq c s.lo then cut_below s (c +ℤ pos 1) else (if int_eq c s.hi then cut_above s (c -ℤ pos 1) else Some s)
left_of s (AtMost c) = cut_above s c
left_of s (AtLeast c) = cut_below s c
