-- What the limits of a task say of its regions, its facts and its caches.
use Prim.Native.Nat.{◌∣◌}
use Rattle.std.proofs.Common.{◌≡◌, ◌≢◌, inl, inr, refl, sym, subst, ℕ, ℤ, pos, negsuc, ◌-◌, ◌%◌, ◌<◌, ◌≤◌, ◌^◌, Bool, true, false, cond, arith}
use Rattle.std.specs.Int.{div_ceil}
use Rattle.std.proofs.Math.Nat.{mul-le-mul_right}
use Rattle.std.proofs.lemmas.Grind.{div_ceil_times}
use Rattle.std.proofs.lemmas.Bool.{cases_lt}
use Rattle.visa_io.specs.declared.records.Machine.{Machine}
use Rattle.task_text.specs.Limits.{IsMachine, KeepsLimits}
use Rattle.task_text.specs.declared.task.Task.{Task}
use Rattle.checkpoint_plan.specs.Limits.{IsPeriod}
use Rattle.path_wcet.specs.Longest.{AreCounted, IsSmallPen}
use Rattle.admission.specs.Found.{pen_of}
use Rattle.std.specs.Prelude.{◌+ℤ◌, ◌-ℤ◌, ◌≤ℤ◌, ◌&&◌, Option, Some, None, int_le, nat_eq, nat_le, unsigned_abs}
use Rattle.std.proofs.lemmas.Bool.{and_parts, eqb-true, leb-true, ltb-true}
use Rattle.std.proofs.lemmas.Grind.{common_steps}
use Rattle.std.proofs.lemmas.Int.{ints}
use Rattle.std.proofs.lemmas.Nat.Gcd.{dvd-zero, dvd_of_mod-eq-zero}
use Rattle.visa_io.specs.declared.records.FactLine.{FactLine}
use Rattle.visa_io.specs.declared.records.Region.{Region}
use Rattle.visa_io.specs.declared.records.Shape.{Shape}
use Rattle.text_fields.specs.Numbers.{is_signed_word}
use Rattle.task_text.specs.declared.row.Row.TheVariants as row
use Rattle.task_text.specs.Table.{in_limits, is_shape, is_shape_or_none, is_strided}
use Rattle.persistence.specs.Scopes.{HasWays}
use Rattle.range_facts.proofs.Sets.{le_fails, le_holds}
use Rattle.bound_checker.specs.Input.{IsLine}

-- a region is counted by a register that can be written
pub counter_in : (r : Region) → in_limits (row.Loop r) ≡ true → (r.counter ≢ 0) × (r.counter < 32)
unfolding in_limits
counter_in r is =
    let some : 1 ≤ r.counter = grind (arith, common_steps, is) in
    let below : r.counter ≤ 31 = grind (arith, common_steps, is) in
    (λ e. omega (arith, e, some), omega (arith, below))

-- a cache has ways
pub has_ways : (shape : Option Shape) → is_shape_or_none shape ≡ true → HasWays shape
unfolding is_shape
has_ways None is = tt
has_ways (Some shape) is = let some : 1 ≤ shape.ways = grind (arith, common_steps, is) in omega (arith, some)

-- a fact line names a register that can be written, and a fact
low_word : (z : ℤ) → is_signed_word z ≡ true → negsuc (2 ^ 31 - 1) ≤ℤ z
unfolding is_signed_word
low_word (pos n) is = omega (arith, ints)
low_word (negsuc n) is = let below : n < 2 ^ 31 = ltb-true n (2 ^ 31) is in omega (arith, ints, below)

high_word : (z : ℤ) → is_signed_word z ≡ true → z ≤ℤ pos (2 ^ 31 - 1)
unfolding is_signed_word
high_word (pos n) is = let below : n < 2 ^ 31 = ltb-true n (2 ^ 31) is in omega (arith, ints, below)
high_word (negsuc n) is = omega (arith, ints)

span_up : (lo hi : ℤ) → lo ≤ℤ hi → hi ≡ lo +ℤ pos (unsigned_abs (hi -ℤ lo))
span_up lo hi up = omega (arith, ints, up)

record IsStrided (lo hi : ℤ) (stride : ℕ) : Type 0 where
  up : lo ≤ℤ hi
  some : 1 ≤ stride
  whole : stride ∣ unsigned_abs (hi -ℤ lo)
  single : unsigned_abs (hi -ℤ lo) ≡ 0 → stride ≡ 1

strided_of : (lo hi : ℤ) (stride : ℕ) → is_strided lo hi stride ≡ true → IsStrided lo hi stride
unfolding is_strided
strided_of lo hi stride is =
    let parts = and_parts (int_le lo hi) (nat_le 1 stride && cond (int_le hi lo) (nat_eq stride 1)
    (nat_eq (unsigned_abs (hi -ℤ lo) % stride) 0)) is in
    let more = and_parts (nat_le 1 stride) (cond (int_le hi lo) (nat_eq stride 1)
    (nat_eq (unsigned_abs (hi -ℤ lo) % stride) 0)) parts.1 in
    by_test (le_holds lo hi parts.0) (leb-true 1 stride more.0) (int_le hi lo) refl more.1
  where
    by_test : lo ≤ℤ hi → 1 ≤ stride → (b : Bool) → int_le hi lo ≡ b
        → cond b (nat_eq stride 1) (nat_eq (unsigned_abs (hi -ℤ lo) % stride) 0) ≡ true → IsStrided lo hi stride
    by_test up some true down one =
        let back = le_holds hi lo down in
        let none : unsigned_abs (hi -ℤ lo) ≡ 0 = omega (arith, ints, up, back) in
        record {
          up = up;
          some = some;
          whole = subst (λ n. stride ∣ n) (sym none) (dvd-zero stride);
          single = λ e.
              eqb-true stride 1 one;
        }
    by_test up some false over multiple =
        let above = le_fails hi lo over in
        record {
          up = up;
          some = some;
          whole = dvd_of_mod-eq-zero stride (eqb-true (unsigned_abs (hi -ℤ lo) % stride) 0 multiple);
          single = λ e. absurd (omega (arith, ints, above, e));
        }

pub line_in : (f : FactLine) → in_limits (row.Fact f) ≡ true → IsLine f
unfolding in_limits
line_in f is =
    let some : 1 ≤ f.register = grind (arith, common_steps, is) in
    let below : f.register ≤ 31 = grind (arith, common_steps, is) in
    let low : is_signed_word f.lo ≡ true = grind (arith, common_steps, is) in
    let high : is_signed_word f.hi ≡ true = grind (arith, common_steps, is) in
    let stride : is_strided f.lo f.hi f.stride ≡ true = grind (arith, common_steps, is) in
    let s = strided_of f.lo f.hi f.stride stride in
    record {
      some = omega (arith, some);
      below = omega (arith, below);
      fact = record {
        some = omega (arith, s.some);
        low = low_word f.lo low;
        high = high_word f.hi high;
        span = unsigned_abs (f.hi -ℤ f.lo);
        ends = span_up f.lo f.hi s.up;
        whole = s.whole;
        single = s.single;
      };
    }

-- and gone round at least once
pub count_in : (r : Region) → in_limits (row.Loop r) ≡ true → 1 ≤ r.count
unfolding in_limits
count_in r is = grind (arith, common_steps, is)

-- an access or a store takes at most so many cycles
few_cycles : (a b : ℕ) → a ≤ 10 ^ 7 → 100 ≤ b → div_ceil a b ≤ 100000
few_cycles a b most least = elim (cases_lt 100000 (div_ceil a b)) [
  | inl above ↦ absurd (omega (arith, (div_ceil_times a b (omega (arith, least))).1, mul-le-mul_right {m = 100001} {n = div_ceil a b} b above, most, least))
  | inr within ↦ omega (arith, within)
]

pub small_pen : (m : Machine) (period : ℕ) → IsMachine m → IsPeriod period → IsSmallPen (pen_of m period)
small_pen m period machine is = record {
  m = few_cycles m.mem_ps period machine.mem_ps.1 is.least;
  w = few_cycles m.store_ps period machine.store_ps.1 is.least;
  mul = machine.mul.1;
  div = machine.div.1;
}

pub counted : (t : Task) → KeepsLimits t → AreCounted t.regions
counted t keeps k d below = count_in _ (keeps.regions k d below)
