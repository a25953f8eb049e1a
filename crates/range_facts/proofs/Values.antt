-- The values that instructions compute are those of the facts.
use Rattle.std.proofs.Common.{ap₂, ◌≡◌, ◌∙◌, refl, sym, ap, subst, ℕ, zero, suc, ◌+◌, ◌-◌, ◌*◌, ◌%◌, ◌^◌, ◌<◌, ◌≤◌, Bool, true, false, cond, eqb, ltb, arith, pos, negsuc, ℤ, Some, None}
use Rattle.std.specs.Prelude.{◌+ℤ◌, ◌-ℤ◌, ◌*ℤ◌, ◌&&◌, FitsSigned, IfSome}
use Rattle.std.specs.Int.{w32}
use Rattle.std.specs.Ordering.{int_eq}
use Prim.Native.Nat.{◌∣◌}
use Rattle.std.proofs.lemmas.Bool.{lt-ltb, and_parts, eqb-true}
use Rattle.std.proofs.lemmas.Int.{ints}
use Rattle.std.proofs.lemmas.Nat.{pow_pos, pow_below}
use Rattle.std.proofs.lemmas.Nat.Gcd.{dvd-zero, dvd_trans, dvd_of_mod-eq-zero}
use Rattle.std.proofs.Math.Nat.{one-dvd, dvd-add, dvd-sub, mul-dvd-mul_right}
use Rattle.mips_isa.specs.Words.{low_word, signed, unsigned, word_difference, word_sum}
use Rattle.mips_ref.specs.Act.{fits_word, word_if_fits, shifted_left}
use Rattle.range_facts.specs.Ranges.{Holds, IsFact, is_constant, range, unknown, up_to}
use Rattle.range_facts.specs.Transfer.{common_stride, copied_or, difference_fact, divisor_up_to, is_zero, moved_fact, scaled_fact, sum_fact, within_words, word_fact}
use Rattle.range_facts.specs.declared.strided.Strided.{Strided}
use Rattle.range_facts.proofs.Sets.{bare, constant_fact, eq_holds, only_value, range_fact, range_from, step_one_holds, unknown_fact}
use Rattle.range_facts.proofs.Words.{difference_exact, fits_holds, low_below, low_same, product_exact, signed_small, signed_unsigned, signed_word, spread, sum_exact, unsigned_signed, word_from, word_to}

-- any word
pub unknown_holds : (x : ℕ) → x < 2 ^ 32 → Holds unknown (signed x)
unknown_holds x below =
    let w = signed_word x below in
    step_one_holds (negsuc (2 ^ 31 - 1)) (pos (2 ^ 31 - 1)) (signed x) w.low w.high

pub any_holds : (x : ℕ) → Holds unknown (signed (low_word x))
any_holds x = unknown_holds (low_word x) (low_below x)

-- a number up to another
pub up_to_holds : (most x : ℕ) → x ≤ most → most < 2 ^ 31 → Holds (up_to most) (signed (low_word x))
up_to_holds most x le small =
    let is : signed (low_word x) ≡ pos x = ap signed (low_same x (omega (arith, le, small))) ∙ signed_small x (omega (arith, le, small)) in
    subst (λ z. Holds (up_to most) z) (sym is) (step_one_holds (pos 0) (pos most) (pos x) (omega (arith, ints)) (omega (arith, ints, le)))

pub word_fact_is : (x : ℕ) → IsFact (word_fact x)
word_fact_is x =
    let w = signed_word (low_word x) (low_below x) in
    constant_fact (signed (low_word x)) w.low w.high

-- ranges within words
by_high : (lo hi : ℤ) (stride : ℕ) (P : Strided → Type 0) → (fits_word lo ≡ true → fits_word hi ≡ true → P (range lo hi stride)) → P unknown → (a b : Bool) → fits_word lo ≡ a → fits_word hi ≡ b
    → P (cond (a && b) (range lo hi stride) unknown)
by_high lo hi stride P both none true true p q = both p q
by_high lo hi stride P both none true false p q = none
by_high lo hi stride P both none false b p q = none

pub by_words : (lo hi : ℤ) (stride : ℕ) (P : Strided → Type 0) → (FitsSigned w32 lo → FitsSigned w32 hi → P (range lo hi stride)) → P unknown → P (within_words lo hi stride)
by_words lo hi stride P both none =
    by_high lo hi stride P (λ p q. both (fits_holds lo p) (fits_holds hi q)) none (fits_word lo) (fits_word hi) refl refl

pub words_fact : (lo hi : ℤ) (stride span : ℕ) → hi ≡ lo +ℤ pos span → 0 < stride → stride ∣ span → IsFact (within_words lo hi stride)
words_fact lo hi stride span ends some dvd =
    by_words lo hi stride (λ s. IsFact s)
    (λ p q. let l = word_from lo p in let h = word_from hi q in range_fact lo hi stride span l.low h.high ends some dvd)
    unknown_fact

pub words_hold : (lo hi : ℤ) (stride x : ℕ) → x < 2 ^ 32 → (FitsSigned w32 lo → FitsSigned w32 hi → Holds (bare lo hi stride) (signed x)) → Holds (within_words lo hi stride) (signed x)
words_hold lo hi stride x below there =
    by_words lo hi stride (λ s. Holds s (signed x)) (λ p q. range_from lo hi stride (signed x) (there p q)) (unknown_holds x below)

-- common divisors
pub divides_both : (n a b : ℕ) → (divisor_up_to n a b ∣ a) × (divisor_up_to n a b ∣ b)
unfolding divisor_up_to
divides_both zero a b = (one-dvd a, one-dvd b)
divides_both (suc n) a b = by_test (divides_both n a b) (eqb (a % suc n) 0 && eqb (b % suc n) 0) refl
  where
    by_test : (divisor_up_to n a b ∣ a) × (divisor_up_to n a b ∣ b) → (t : Bool) → (eqb (a % suc n) 0 && eqb (b % suc n) 0) ≡ t → (cond t (suc n) (divisor_up_to n a b) ∣ a) × (cond t (suc n) (divisor_up_to n a b) ∣ b)
    by_test less true is =
        let parts = and_parts (eqb (a % suc n) 0) (eqb (b % suc n) 0) is in
        (dvd_of_mod-eq-zero (suc n) (eqb-true (a % suc n) 0 parts.0), dvd_of_mod-eq-zero (suc n) (eqb-true (b % suc n) 0 parts.1))
    by_test less false is = less

pub divisor_some : (n a b : ℕ) → 0 < divisor_up_to n a b
unfolding divisor_up_to
divisor_some zero a b = omega arith
divisor_some (suc n) a b = by_test (divisor_some n a b) (eqb (a % suc n) 0 && eqb (b % suc n) 0)
  where
    by_test : 0 < divisor_up_to n a b → (t : Bool) → 0 < cond t (suc n) (divisor_up_to n a b)
    by_test less true = omega arith
    by_test less false = less

-- each distance inside either operand is a multiple of the common stride
pub record IsCommon (a b : Strided) (g : ℕ) : Type 0 where
  pub some : 0 < g
  pub first : (n : ℕ) → a.stride ∣ n → (a.lo ≡ a.hi → n ≡ 0) → g ∣ n
  pub second : (n : ℕ) → b.stride ∣ n → (b.lo ≡ b.hi → n ≡ 0) → g ∣ n

pub common_is : (a b : Strided) → 0 < a.stride → 0 < b.stride → IsCommon a b (common_stride a b)
unfolding common_stride
common_is a b sa sb = by_first (is_constant a) refl
  where
    nothing : (g n : ℕ) → n ≡ 0 → g ∣ n
    nothing g n none = subst (λ k. g ∣ k) (sym none) (dvd-zero g)

    by_second : (t : Bool) → is_constant b ≡ t → IsCommon a b (cond t a.stride (divisor_up_to a.stride a.stride b.stride))
    by_second true is = record { some = sa; first = λ n d z. d; second = λ n d z. nothing a.stride n (z (eq_holds b.lo b.hi is)) }
    by_second false is =
        let both = divides_both a.stride a.stride b.stride in
        let g = divisor_up_to a.stride a.stride b.stride in
        record {
          some = divisor_some a.stride a.stride b.stride;
          first = λ n d z. dvd_trans g both.0 d;
          second = λ n d z. dvd_trans g both.1 d;
        }

    by_first : (t : Bool) → is_constant a ≡ t → IsCommon a b (cond t b.stride (cond (is_constant b) a.stride (divisor_up_to a.stride a.stride b.stride)))
    by_first true is = record { some = sb; first = λ n d z. nothing b.stride n (z (eq_holds a.lo a.hi is)); second = λ n d z. d }
    by_first false is = by_second (is_constant b) refl

inside_none : (s : Strided) (z : ℤ) (h : Holds s z) → s.lo ≡ s.hi → h.above ≡ 0
inside_none s z h one = omega (arith, ints, one, h.place, h.below)

span_none : (s : Strided) (f : IsFact s) → s.lo ≡ s.hi → f.span ≡ 0
span_none s f one = omega (arith, ints, one, f.ends)

-- sums
pub sum_is_fact : (a b : Strided) → IsFact a → IsFact b → IsFact (sum_fact a b)
unfolding sum_fact
sum_is_fact a b fa fb =
    let c = common_is a b fa.some fb.some in
    words_fact (a.lo +ℤ b.lo) (a.hi +ℤ b.hi) (common_stride a b) (fa.span + fb.span) (omega (arith, ints, fa.ends, fb.ends)) c.some
    (dvd-add (common_stride a b) (c.first fa.span fa.whole (span_none a fa)) (c.second fb.span fb.whole (span_none b fb)))

sum_value : (a b : Strided) (y z : ℤ) → IsFact a → IsFact b → Holds a y → Holds b z → Holds (bare (a.lo +ℤ b.lo) (a.hi +ℤ b.hi) (common_stride a b)) (y +ℤ z)
sum_value a b y z fa fb hy hz =
    let c = common_is a b fa.some fb.some in
    record {
      above = hy.above + hz.above;
      place = omega (arith, ints, hy.place, hz.place);
      steps = dvd-add (common_stride a b) (c.first hy.above hy.steps (inside_none a y hy)) (c.second hz.above hz.steps (inside_none b z hz));
      below = omega (arith, ints, hy.below, hz.below);
    }

fits_between : (lo hi z : ℤ) (stride : ℕ) → FitsSigned w32 lo → FitsSigned w32 hi → Holds (bare lo hi stride) z → FitsSigned w32 z
fits_between lo hi z stride p q h =
    let l = word_from lo p in
    let u = word_from hi q in
    word_to z (omega (arith, ints, l.low, h.place)) (omega (arith, ints, u.high, h.below))

pub sum_holds : (a b : Strided) (x y : ℕ) → IsFact a → IsFact b → x < 2 ^ 32 → y < 2 ^ 32 → Holds a (signed x) → Holds b (signed y) → Holds (sum_fact a b) (signed (word_sum x y))
unfolding sum_fact
sum_holds a b x y fa fb p q hx hy =
    let v = sum_value a b (signed x) (signed y) fa fb hx hy in
    let lo = a.lo +ℤ b.lo in
    let hi = a.hi +ℤ b.hi in
    let g = common_stride a b in
    words_hold lo hi g (word_sum x y) (low_below (x + y))
    (λ l h. subst (λ z. Holds (bare lo hi g) z) (sym (sum_exact x y p q (fits_between lo hi (signed x +ℤ signed y) g l h v))) v)

-- differences
pub difference_is_fact : (a b : Strided) → IsFact a → IsFact b → IsFact (difference_fact a b)
unfolding difference_fact
difference_is_fact a b fa fb =
    let c = common_is a b fa.some fb.some in
    words_fact (a.lo -ℤ b.hi) (a.hi -ℤ b.lo) (common_stride a b) (fa.span + fb.span) (omega (arith, ints, fa.ends, fb.ends)) c.some
    (dvd-add (common_stride a b) (c.first fa.span fa.whole (span_none a fa)) (c.second fb.span fb.whole (span_none b fb)))

difference_value : (a b : Strided) (y z : ℤ) → IsFact a → IsFact b → Holds a y → Holds b z → Holds (bare (a.lo -ℤ b.hi) (a.hi -ℤ b.lo) (common_stride a b)) (y -ℤ z)
difference_value a b y z fa fb hy hz =
    let c = common_is a b fa.some fb.some in
    let g = common_stride a b in
    let less : hz.above ≤ fb.span = omega (arith, ints, hz.place, hz.below, fb.ends) in
    record {
      above = hy.above + (fb.span - hz.above);
      place = omega (arith, ints, hy.place, hz.place, fb.ends, less);
      steps = dvd-add g (c.first hy.above hy.steps (inside_none a y hy))
          (dvd-sub g (c.second fb.span fb.whole (span_none b fb)) (c.second hz.above hz.steps (inside_none b z hz)));
      below = omega (arith, ints, hy.below, hz.place);
    }

pub difference_holds : (a b : Strided) (x y : ℕ) → IsFact a → IsFact b → x < 2 ^ 32 → y < 2 ^ 32 → Holds a (signed x) → Holds b (signed y) → Holds (difference_fact a b) (signed (word_difference x y))
unfolding difference_fact
difference_holds a b x y fa fb p q hx hy =
    let v = difference_value a b (signed x) (signed y) fa fb hx hy in
    let lo = a.lo -ℤ b.hi in
    let hi = a.hi -ℤ b.lo in
    let g = common_stride a b in
    words_hold lo hi g (word_difference x y) (low_below (x + (2 ^ 32 - y)))
    (λ l h. subst (λ z. Holds (bare lo hi g) z) (sym (difference_exact x y p q (fits_between lo hi (signed x -ℤ signed y) g l h v))) v)

-- a constant added
pub moved_is_fact : (a : Strided) (by : ℤ) → IsFact a → IsFact (moved_fact a by)
unfolding moved_fact
moved_is_fact a by f = words_fact (a.lo +ℤ by) (a.hi +ℤ by) a.stride f.span (omega (arith, ints, f.ends)) f.some f.whole

pub moved_holds : (a : Strided) (x y : ℕ) (by : ℤ) → x < 2 ^ 32 → y < 2 ^ 32 → signed y ≡ by → Holds a (signed x) → Holds (moved_fact a by) (signed (word_sum x y))
unfolding moved_fact
moved_holds a x y by p q is h =
    let lo = a.lo +ℤ by in
    let hi = a.hi +ℤ by in
    let v : Holds (bare lo hi a.stride) (signed x +ℤ signed y) =
    record { above = h.above; place = omega (arith, ints, h.place, is); steps = h.steps; below = omega (arith, ints, h.below, is) } in
    words_hold lo hi a.stride (word_sum x y) (low_below (x + y))
    (λ l u. subst (λ z. Holds (bare lo hi a.stride) z) (sym (sum_exact x y p q (fits_between lo hi (signed x +ℤ signed y) a.stride l u v))) v)

-- sums and differences that trap where they don't fit
pub exact_holds : (s : Strided) (z : ℤ) (w : ℕ) → (FitsSigned w32 z → signed w ≡ z) → Holds s (signed w) → IfSome (word_if_fits z) (λ v. Holds s (signed (low_word v)))
exact_holds s z w same h = by_fit (fits_word z) refl
  where
    by_fit : (b : Bool) → fits_word z ≡ b → IfSome (cond b (Some (unsigned z)) None) (λ v. Holds s (signed (low_word v)))
    by_fit true is =
        let fits = fits_holds z is in
        subst (λ y. Holds s y) (same fits ∙ sym (signed_unsigned z fits)) h
    by_fit false is = tt

-- shifts to the left
pub scaled_is_fact : (a : Strided) (sa : ℕ) → IsFact a → IsFact (scaled_fact a sa)
unfolding scaled_fact
scaled_is_fact a sa f = by_size (ltb (a.stride * 2 ^ sa) (2 ^ 32))
  where
    some : 0 < a.stride * 2 ^ sa
    some = omega (arith, f.some, pow_pos sa, product a.stride (2 ^ sa) f.some (pow_pos sa))
      where
        product : (m n : ℕ) → 0 < m → 0 < n → 0 < m * n
        product (suc m) (suc n) p q = omega arith
        product zero n p q = absurd (omega (arith, p))
        product (suc m) zero p q = absurd (omega (arith, q))

    by_size : (b : Bool) → IsFact (cond b (within_words (a.lo *ℤ pos (2 ^ sa)) (a.hi *ℤ pos (2 ^ sa)) (a.stride * 2 ^ sa)) unknown)
    by_size true =
        words_fact (a.lo *ℤ pos (2 ^ sa)) (a.hi *ℤ pos (2 ^ sa)) (a.stride * 2 ^ sa) (f.span * 2 ^ sa)
        (ap (λ z. z *ℤ pos (2 ^ sa)) f.ends ∙ spread a.lo f.span (2 ^ sa)) some (mul-dvd-mul_right a.stride f.whole (2 ^ sa))
    by_size false = unknown_fact

scaled_value : (a : Strided) (z : ℤ) (m : ℕ) → IsFact a → Holds a z → Holds (bare (a.lo *ℤ pos m) (a.hi *ℤ pos m) (a.stride * m)) (z *ℤ pos m)
scaled_value a z m f h =
    let less : h.above ≤ f.span = omega (arith, ints, h.place, h.below, f.ends) in
    let rest : f.span ≡ h.above + (f.span - h.above) = omega (arith, less) in
    let top : a.hi ≡ z +ℤ pos (f.span - h.above) = omega (arith, ints, f.ends, h.place, less) in
    let high : a.hi *ℤ pos m ≡ z *ℤ pos m +ℤ pos ((f.span - h.above) * m) = ap (λ v. v *ℤ pos m) top ∙ spread z (f.span - h.above) m in
    record {
      above = h.above * m;
      place = ap (λ v. v *ℤ pos m) h.place ∙ spread a.lo h.above m;
      steps = mul-dvd-mul_right a.stride h.steps m;
      below = omega (arith, ints, high);
    }

pub scaled_holds : (a : Strided) (x sa : ℕ) → IsFact a → x < 2 ^ 32 → sa < 32 → Holds a (signed x) → Holds (scaled_fact a sa) (signed (low_word (shifted_left x sa)))
unfolding scaled_fact
scaled_holds a x sa f p small h = subst (λ w. Holds (cond (ltb (a.stride * 2 ^ sa) (2 ^ 32)) (within_words lo hi (a.stride * 2 ^ sa)) unknown) (signed w)) (sym (low_same (low_word (x * 2 ^ sa)) (low_below (x * 2 ^ sa)))) (by_size (ltb (a.stride * 2 ^ sa) (2 ^ 32)))
  where
    lo : ℤ
    lo = a.lo *ℤ pos (2 ^ sa)

    hi : ℤ
    hi = a.hi *ℤ pos (2 ^ sa)

    by_size : (b : Bool) → Holds (cond b (within_words (a.lo *ℤ pos (2 ^ sa)) (a.hi *ℤ pos (2 ^ sa)) (a.stride * 2 ^ sa)) unknown) (signed (low_word (x * 2 ^ sa)))
    by_size true =
        let v = scaled_value a (signed x) (2 ^ sa) f h in
        let bound : 2 ^ sa < 2 ^ 32 = pow_below sa 32 small in
        let l = a.lo *ℤ pos (2 ^ sa) in
        let u = a.hi *ℤ pos (2 ^ sa) in
        let g = a.stride * 2 ^ sa in
        words_hold l u g (low_word (x * 2 ^ sa)) (low_below (x * 2 ^ sa))
        (λ s t. subst (λ z. Holds (bare l u g) z) (sym (product_exact x (2 ^ sa) p bound (fits_between l u (signed x *ℤ pos (2 ^ sa)) g s t v))) v)
    by_size false = unknown_holds (low_word (x * 2 ^ sa)) (low_below (x * 2 ^ sa))

-- the other operand of a zero
pub zero_word : (s : Strided) (x : ℕ) → x < 2 ^ 32 → is_zero s ≡ true → Holds s (signed x) → x ≡ 0
zero_word s x below is h =
    let parts = and_parts (int_eq s.lo (pos 0)) (int_eq s.hi (pos 0)) is in
    let lo = eq_holds s.lo (pos 0) parts.0 in
    let hi = eq_holds s.hi (pos 0) parts.1 in
    let none : signed x ≡ pos 0 = only_value s (signed x) (lo ∙ sym hi) h ∙ lo in
    sym (unsigned_signed x below) ∙ ap unsigned none

pub copied_holds : (a b other : Strided) (P : Strided → Type 0) → (is_zero b ≡ true → P a) → (is_zero a ≡ true → P b) → P other → P (copied_or a b other)
copied_holds a b other P first second rest = by_second (is_zero b) refl
  where
    by_first : (t : Bool) → is_zero a ≡ t → P (cond t b other)
    by_first true is = second is
    by_first false is = rest

    by_second : (t : Bool) → is_zero b ≡ t → P (cond t a (cond (is_zero a) b other))
    by_second true is = first is
    by_second false is = by_first (is_zero a) refl

-- the ranges as the code makes them
pub words_at : (r : Strided) (x y lo hi : ℤ) (s t : ℕ) → x ≡ lo → y ≡ hi → s ≡ t → r ≡ within_words x y s → r ≡ within_words lo hi t
words_at r x y lo hi s t low high same is = is ∙ ap₂ (λ u v. within_words u v s) low high ∙ ap (λ n. within_words lo hi n) same

pub scaled_at : (a : Strided) (sa : ℕ) (r : Strided) → a.stride * 2 ^ sa < 2 ^ 32 → r ≡ within_words (a.lo *ℤ pos (2 ^ sa)) (a.hi *ℤ pos (2 ^ sa)) (a.stride * 2 ^ sa) → r ≡ scaled_fact a sa
unfolding scaled_fact
scaled_at a sa r small is =
    is ∙ sym (ap (λ b. cond b (within_words (a.lo *ℤ pos (2 ^ sa)) (a.hi *ℤ pos (2 ^ sa)) (a.stride * 2 ^ sa)) unknown) (lt-ltb (a.stride * 2 ^ sa) (2 ^ 32) small))
