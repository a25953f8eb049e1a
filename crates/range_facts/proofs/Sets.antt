-- Values of strided ranges.
use Rattle.std.proofs.Common.{◌≡◌, ◌∙◌, refl, sym, ap, ap₂, subst, to_z, of_z, ℕ, zero, suc, ◌+◌, ◌-◌, ◌*◌, ◌/◌, ◌%◌, ◌^◌, ◌<◌, ◌≤◌, Bool, true, false, cond, eqb, arith, inl, inr, pos, negsuc, ℤ}
use Rattle.std.specs.Prelude.{◌+ℤ◌, ◌-ℤ◌, ◌≤ℤ◌, ◌<ℤ◌, ◌&&◌, ◌||◌, int_le, int_lt, unsigned_abs, ◌↔◌, FitsSigned}
use Rattle.std.specs.Ordering.{int_eq}
use Prim.Native.Nat.{◌∣◌}
use Rattle.std.specs.Int.{w64}
use Rattle.std.proofs.lemmas.Int.{ints, to_z-of_z}
use Rattle.std.proofs.lemmas.Bool.{and_parts, and_from, or_cases, eqb-true, eq-eqb}
use Rattle.std.proofs.lemmas.Bool.Decides.{Decides-int_eq}
use Rattle.std.proofs.lemmas.Nat.Gcd.{dvd_refl, dvd-zero, dvd_trans, le_of_dvd, dvd_of_mod-eq-zero, mod-eq-zero_of_dvd}
use Rattle.std.proofs.Math.Nat.{one-dvd, dvd-add, dvd-sub, dvd-mul_left, div-mul_cancel}
use Rattle.std.proofs.lemmas.Nat.{le-div, mul-le}
use Rattle.range_facts.specs.Ranges.{Holds, IsFact, IsWithin, constant, range, unknown, up_to}
use Rattle.range_facts.specs.Refining.{distance, has, whole}
use Rattle.range_facts.specs.declared.strided.Strided.{Strided}

-- tests on integers
pub le_holds : (a b : ℤ) → int_le a b ≡ true → a ≤ℤ b
le_holds a b is = grind (arith, ints, is)

pub le_fails : (a b : ℤ) → int_le a b ≡ false → b <ℤ a
le_fails a b is = grind (arith, ints, is)

pub lt_holds : (a b : ℤ) → int_lt a b ≡ true → a <ℤ b
lt_holds a b is = grind (arith, ints, is)

pub lt_fails : (a b : ℤ) → int_lt a b ≡ false → b ≤ℤ a
lt_fails a b is = grind (arith, ints, is)

pub le_true : (a b : ℤ) → a ≤ℤ b → int_le a b ≡ true
le_true a b le = grind (arith, ints, le)

pub le_false : (a b : ℤ) → b <ℤ a → int_le a b ≡ false
le_false a b lt = grind (arith, ints, lt)

pub lt_false : (a b : ℤ) → b ≤ℤ a → int_lt a b ≡ false
lt_false a b le = grind (arith, ints, le)

pub eq_holds : (a b : ℤ) → int_eq a b ≡ true → a ≡ b
eq_holds a b is = (Decides-int_eq a b).0 is

pub eq_true : (a b : ℤ) → a ≡ b → int_eq a b ≡ true
eq_true a b is = (Decides-int_eq a b).1 is

-- numbers as the code passes them on
pub fits64 : (z : ℤ) → negsuc (2 ^ 31 - 1) ≤ℤ z → z ≤ℤ pos (2 ^ 31 - 1) → FitsSigned w64 z
fits64 (pos n) low high = record { sfits = omega (arith, ints, high) }
fits64 (negsuc n) low high = record { sfits = omega (arith, ints, low) }

pub fits64_lo : (s : Strided) → IsFact s → FitsSigned w64 s.lo
fits64_lo s f = fits64 s.lo f.low (omega (arith, ints, f.ends, f.high))

pub fits64_hi : (s : Strided) → IsFact s → FitsSigned w64 s.hi
fits64_hi s f = fits64 s.hi (omega (arith, ints, f.ends, f.low)) f.high

pub lt_fails64 : (x y : ℤ) → FitsSigned w64 x → FitsSigned w64 y → int_lt (to_z w64 (of_z w64 x)) (to_z w64 (of_z w64 y)) ≡ false → y ≤ℤ x
lt_fails64 x y p q is = lt_fails x y (sym (ap₂ int_lt (to_z-of_z w64 x p) (to_z-of_z w64 y q)) ∙ is)

pub le_fails64 : (x y : ℤ) → FitsSigned w64 x → FitsSigned w64 y → int_le (to_z w64 (of_z w64 x)) (to_z w64 (of_z w64 y)) ≡ false → y <ℤ x
le_fails64 x y p q is = le_fails x y (sym (ap₂ int_le (to_z-of_z w64 x p) (to_z-of_z w64 y q)) ∙ is)

-- how far apart two numbers are
pub distance_is : (a b : ℤ) (n : ℕ) → b ≡ a +ℤ pos n → distance a b ≡ n
distance_is a b n is =
    let e : b -ℤ a ≡ pos n = omega (arith, ints, is) in
    ap unsigned_abs e

pub gap : (a b : ℤ) → a ≤ℤ b → b ≡ a +ℤ pos (distance a b)
gap a b le = by_gap (b -ℤ a) refl
  where
    by_gap : (d : ℤ) → b -ℤ a ≡ d → b ≡ a +ℤ pos (unsigned_abs d)
    by_gap (pos n) is = omega (arith, ints, is)
    by_gap (negsuc n) is = absurd (omega (arith, ints, is, le))

-- whole strides
pub whole_le : (d k : ℕ) → whole d k ≤ d
whole_le d k = omega arith

pub whole_dvd : (d k : ℕ) → k ∣ whole d k
whole_dvd d k = dvd-mul_left k (d / k)

pub whole_most : (d k m : ℕ) → 0 < k → k ∣ m → m ≤ d → m ≤ whole d k
whole_most d k m some dvd le =
    let back : m / k * k ≡ m = div-mul_cancel k dvd in
    let few : m / k ≤ d / k = le-div (m / k) d k some (omega (arith, back, le)) in
    omega (arith, back, mul-le (m / k) k (d / k) k few (omega arith))

-- both ends are values
pub holds_lo : (s : Strided) → IsFact s → Holds s s.lo
holds_lo s f = record { above = 0; place = omega (arith, ints); steps = dvd-zero s.stride; below = omega (arith, ints, f.ends) }

pub holds_hi : (s : Strided) → IsFact s → Holds s s.hi
holds_hi s f = record { above = f.span; place = f.ends; steps = f.whole; below = omega (arith, ints) }

-- the test of a value
pub has_holds : (s : Strided) (c : ℤ) → has s c ≡ true → Holds s c
unfolding has
has_holds s c is =
    let parts = and_parts (int_le s.lo c && int_le c s.hi) (eqb (distance s.lo c % s.stride) 0) is in
    let ends = and_parts (int_le s.lo c) (int_le c s.hi) parts.0 in
    record {
      above = distance s.lo c;
      place = gap s.lo c (le_holds s.lo c ends.0);
      steps = dvd_of_mod-eq-zero s.stride (eqb-true (distance s.lo c % s.stride) 0 parts.1);
      below = le_holds c s.hi ends.1;
    }

pub has_true : (s : Strided) (c : ℤ) → Holds s c → has s c ≡ true
unfolding has
has_true s c h =
    let from : s.lo ≤ℤ c = omega (arith, ints, h.place) in
    let far : distance s.lo c ≡ h.above = distance_is s.lo c h.above h.place in
    and_from (int_le s.lo c && int_le c s.hi) (eqb (distance s.lo c % s.stride) 0)
    (and_from (int_le s.lo c) (int_le c s.hi) (le_true s.lo c from) (le_true c s.hi h.below))
    (eq-eqb (distance s.lo c % s.stride) 0 (ap (λ n. n % s.stride) far ∙ mod-eq-zero_of_dvd s.stride h.steps))

-- the values of a range that is made of its ends
abbrev pub bare : ℤ → ℤ → ℕ → Strided
bare lo hi stride = record { lo = lo; hi = hi; stride = stride }

single_stride : (lo hi : ℤ) (stride : ℕ) (b : Bool) → int_eq lo hi ≡ b → (z : ℤ) → Holds (bare lo hi stride) z → Holds (bare lo hi (cond b 1 stride)) z
single_stride lo hi stride true is z h = record { above = h.above; place = h.place; steps = one-dvd h.above; below = h.below }
single_stride lo hi stride false is z h = h

pub range_from : (lo hi : ℤ) (stride : ℕ) (z : ℤ) → Holds (bare lo hi stride) z → Holds (range lo hi stride) z
range_from lo hi stride z h = single_stride lo hi stride (int_eq lo hi) refl z h

any_stride : (lo hi : ℤ) (stride : ℕ) (b : Bool) → int_eq lo hi ≡ b → (z : ℤ) → Holds (bare lo hi (cond b 1 stride)) z → Holds (bare lo hi stride) z
any_stride lo hi stride true is z h =
    let none : h.above ≡ 0 = omega (arith, ints, eq_holds lo hi is, h.place, h.below) in
    record { above = h.above; place = h.place; steps = subst (λ n. stride ∣ n) (sym none) (dvd-zero stride); below = h.below }
any_stride lo hi stride false is z h = h

pub range_to : (lo hi : ℤ) (stride : ℕ) (z : ℤ) → Holds (range lo hi stride) z → Holds (bare lo hi stride) z
range_to lo hi stride z h = any_stride lo hi stride (int_eq lo hi) refl z h

made_fact : (lo hi : ℤ) (stride span : ℕ) (b : Bool) → int_eq lo hi ≡ b → negsuc (2 ^ 31 - 1) ≤ℤ lo → hi ≤ℤ pos (2 ^ 31 - 1) → hi ≡ lo +ℤ pos span → 0 < stride → stride ∣ span → IsFact (bare lo hi (cond b 1 stride))
made_fact lo hi stride span true is low high ends some dvd =
    record { some = omega arith; low = low; high = high; span = span; ends = ends; whole = one-dvd span; single = λ e. refl }
made_fact lo hi stride span false is low high ends some dvd =
    record {
      some = some;
      low = low;
      high = high;
      span = span;
      ends = ends;
      whole = dvd;
      single = λ e. let same : lo ≡ hi = omega (arith, ints, ends, e) in let no : false ≡ true = sym is ∙ eq_true lo hi same in cc;
    }

pub range_fact : (lo hi : ℤ) (stride span : ℕ) → negsuc (2 ^ 31 - 1) ≤ℤ lo → hi ≤ℤ pos (2 ^ 31 - 1) → hi ≡ lo +ℤ pos span → 0 < stride → stride ∣ span → IsFact (range lo hi stride)
range_fact lo hi stride span low high ends some dvd = made_fact lo hi stride span (int_eq lo hi) refl low high ends some dvd

pub constant_fact : (z : ℤ) → negsuc (2 ^ 31 - 1) ≤ℤ z → z ≤ℤ pos (2 ^ 31 - 1) → IsFact (constant z)
constant_fact z low high =
    record { some = omega arith; low = low; high = high; span = 0; ends = omega (arith, ints); whole = one-dvd 0; single = λ e. refl }

pub constant_holds : (z : ℤ) → Holds (constant z) z
constant_holds z = record { above = 0; place = omega (arith, ints); steps = one-dvd 0; below = omega (arith, ints) }

-- a constant has one value
pub only_value : (s : Strided) (z : ℤ) → s.lo ≡ s.hi → Holds s z → z ≡ s.lo
only_value s z one h = omega (arith, ints, one, h.place, h.below)

-- the values of unknown and of 0 to a number
pub unknown_fact : IsFact unknown
unknown_fact =
    record {
      some = omega arith;
      low = omega (arith, ints);
      high = omega (arith, ints);
      span = 2 ^ 32 - 1;
      ends = omega (arith, ints);
      whole = one-dvd (2 ^ 32 - 1);
      single = λ e. refl;
    }

pub step_one_holds : (lo hi z : ℤ) → lo ≤ℤ z → z ≤ℤ hi → Holds (bare lo hi 1) z
step_one_holds lo hi z from to = record { above = distance lo z; place = gap lo z from; steps = one-dvd (distance lo z); below = to }

pub up_to_fact : (most : ℕ) → most < 2 ^ 31 → IsFact (up_to most)
up_to_fact most small =
    record {
      some = omega arith;
      low = omega (arith, ints);
      high = omega (arith, ints, small);
      span = most;
      ends = omega (arith, ints);
      whole = one-dvd most;
      single = λ e. refl;
    }

-- three values carry inclusion: both ends, and the one after the lower
pub next_value : (a : Strided) → IsFact a → a.lo <ℤ a.hi → Holds a (a.lo +ℤ pos a.stride)
next_value a f more =
    let some : 0 < f.span = omega (arith, ints, f.ends, more) in
    let le : a.stride ≤ f.span = le_of_dvd some f.whole in
    record { above = a.stride; place = refl; steps = dvd_refl a.stride; below = omega (arith, ints, f.ends, le) }

-- both distances are multiples of the stride
stride_between : (b : Strided) (lo : ℤ) (k : ℕ) → Holds b lo → Holds b (lo +ℤ pos k) → b.stride ∣ k
stride_between b lo k low next =
    let far : next.above ≡ low.above + k = omega (arith, ints, low.place, next.place) in
    let rest : next.above - low.above ≡ k = omega (arith, far) in
    subst (λ n. b.stride ∣ n) rest (dvd-sub b.stride next.steps low.steps)

pub within_from_constant : (a b : Strided) → a.lo ≡ a.hi → Holds b a.lo → IsWithin a b
within_from_constant a b one low z h = subst (λ v. Holds b v) (sym (only_value a z one h)) low

pub within_from : (a b : Strided) → Holds b a.lo → Holds b a.hi → Holds b (a.lo +ℤ pos a.stride) → IsWithin a b
within_from a b low high next z h =
    let step : b.stride ∣ a.stride = stride_between b a.lo a.stride low next in
    record {
      above = low.above + h.above;
      place = omega (arith, ints, low.place, h.place);
      steps = dvd-add b.stride low.steps (dvd_trans b.stride step h.steps);
      below = omega (arith, ints, h.below, high.below);
    }

-- inclusion by three tests
pub tests_within : (a b : Strided) → IsFact a → IsFact b → (t : Bool) → t ≡ (has b a.lo && has b a.hi && (int_eq a.lo a.hi || has b (a.lo +ℤ pos a.stride))) → (t ≡ true) ↔ IsWithin a b
tests_within a b fa fb t is = (λ e. forth (sym is ∙ e), λ w. is ∙ back w)
  where
    forth : (has b a.lo && has b a.hi && (int_eq a.lo a.hi || has b (a.lo +ℤ pos a.stride))) ≡ true → IsWithin a b
    forth e =
        let outer = and_parts (has b a.lo && has b a.hi) (int_eq a.lo a.hi || has b (a.lo +ℤ pos a.stride)) e in
        let ends = and_parts (has b a.lo) (has b a.hi) outer.0 in
        let low = has_holds b a.lo ends.0 in
        elim (or_cases (int_eq a.lo a.hi) (has b (a.lo +ℤ pos a.stride)) outer.1) [
          | inl one ↦ within_from_constant a b (eq_holds a.lo a.hi one) low
          | inr next ↦ within_from a b low (has_holds b a.hi ends.1) (has_holds b (a.lo +ℤ pos a.stride) next)
        ]

    next : IsWithin a b → (c : Bool) → int_eq a.lo a.hi ≡ c → (c || has b (a.lo +ℤ pos a.stride)) ≡ true
    next w true one = refl
    next w false one =
        let more : a.lo <ℤ a.hi = apart fa one in
        has_true b (a.lo +ℤ pos a.stride) (w (a.lo +ℤ pos a.stride) (next_value a fa more))
      where
        apart : IsFact a → int_eq a.lo a.hi ≡ false → a.lo <ℤ a.hi
        apart f differ = by_span f.span refl
          where
            by_span : (n : ℕ) → f.span ≡ n → a.lo <ℤ a.hi
            by_span zero e = let same : a.lo ≡ a.hi = omega (arith, ints, f.ends, e) in let bad : false ≡ true = sym differ ∙ eq_true a.lo a.hi same in cc
            by_span (suc n) e = omega (arith, ints, f.ends, e)

    back : IsWithin a b → (has b a.lo && has b a.hi && (int_eq a.lo a.hi || has b (a.lo +ℤ pos a.stride))) ≡ true
    back w =
        and_from (has b a.lo && has b a.hi) (int_eq a.lo a.hi || has b (a.lo +ℤ pos a.stride))
        (and_from (has b a.lo) (has b a.hi) (has_true b a.lo (w a.lo (holds_lo a fa))) (has_true b a.hi (w a.hi (holds_hi a fa))))
        (next w (int_eq a.lo a.hi) refl)
