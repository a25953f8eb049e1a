-- What conditions leave of ranges.
use Rattle.std.proofs.Common.{◌≡◌, ◌∙◌, refl, sym, ap, subst, ℕ, ◌+◌, ◌-◌, ◌≤◌, Bool, true, false, cond, arith, inl, inr, pos, ℤ, Option, Some, None}
use Rattle.std.specs.Prelude.{◌+ℤ◌, ◌-ℤ◌, ◌≤ℤ◌, ◌<ℤ◌, int_le, int_lt, MatchOption}
use Rattle.std.specs.Ordering.{int_eq}
use Prim.Native.Nat.{◌∣◌}
use Rattle.std.proofs.lemmas.Int.{ints}
use Rattle.std.proofs.Math.Nat.{dvd-add, dvd-sub}
use Rattle.range_facts.specs.Ranges.{Holds, IsFact, constant, range}
use Rattle.range_facts.specs.Refining.{IsLeft, Leaves, SomeMeets, Stays, cut_above, cut_below, distance, has, left_of, whole}
use Rattle.range_facts.specs.declared.strided.Strided.{Strided}
use Rattle.range_facts.specs.declared.strided.Cond.{Cond}
use Rattle.range_facts.specs.declared.strided.Cond.TheVariants.{Eq, Ne, AtMost, AtLeast}
use Rattle.range_facts.proofs.Sets.{constant_fact, constant_holds, eq_holds, eq_true, gap, has_holds, has_true, holds_lo, le_fails, le_false, le_holds, lt_fails, lt_false, lt_holds, only_value, range_fact, range_from, range_to, whole_dvd, whole_le, whole_most}

-- all of a range
whole_left : (s : Strided) (P : ℤ → Type 0) → IsFact s → ((z : ℤ) → Holds s z → P z) → IsLeft s P s
whole_left s P f all = record { fact = f; kept = λ z h p. h; inside = λ z h. h; only = λ z h. all z h }

-- two tests that agree on the values leave the same
leaves_same : (s : Strided) (P Q : ℤ → Type 0) (r : Option Strided) → ((z : ℤ) → Holds s z → P z → Q z) → ((z : ℤ) → Holds s z → Q z → P z) → Leaves s P r → Leaves s Q r
leaves_same s P Q None to from none = λ z h q. none z h (from z h q)
leaves_same s P Q (Some r) to from left =
    record { fact = left.fact; kept = λ z h q. left.kept z h (from z h q); inside = left.inside; only = λ z h. to z (left.inside z h) (left.only z h) }

above_cut : (s : Strided) (c : ℤ) → IsFact s → s.lo ≤ℤ c → c <ℤ s.hi → IsLeft s (λ z. z ≤ℤ c) (range s.lo (s.lo +ℤ pos (whole (distance s.lo c) s.stride)) s.stride)
above_cut s c f from to =
    let d = distance s.lo c in
    let w = whole d s.stride in
    let there : c ≡ s.lo +ℤ pos d = gap s.lo c from in
    let less : w ≤ d = whole_le d s.stride in
    record {
      fact = range_fact s.lo (s.lo +ℤ pos w) s.stride w f.low (omega (arith, ints, there, less, to, f.high)) refl f.some (whole_dvd d s.stride);
      kept = λ z h p.
          let few : h.above ≤ d = omega (arith, ints, h.place, there, p) in
          let most : h.above ≤ w = whole_most d s.stride h.above f.some h.steps few in
          range_from s.lo (s.lo +ℤ pos w) s.stride z (record { above = h.above; place = h.place; steps = h.steps; below = omega (arith, ints, h.place, most) });
      inside = λ z h.
          let b = range_to s.lo (s.lo +ℤ pos w) s.stride z h in
          record { above = b.above; place = b.place; steps = b.steps; below = omega (arith, ints, b.below, there, less, to) };
      only = λ z h.
          let b = range_to s.lo (s.lo +ℤ pos w) s.stride z h in
          omega (arith, ints, b.below, there, less);
    }

below_cut : (s : Strided) (c : ℤ) → IsFact s → s.lo <ℤ c → c ≤ℤ s.hi → IsLeft s (λ z. c ≤ℤ z) (range (s.hi -ℤ pos (whole (distance c s.hi) s.stride)) s.hi s.stride)
below_cut s c f from to =
    let d = distance c s.hi in
    let w = whole d s.stride in
    let there : s.hi ≡ c +ℤ pos d = gap c s.hi to in
    let less : w ≤ d = whole_le d s.stride in
    let lo = s.hi -ℤ pos w in
    record {
      fact = range_fact lo s.hi s.stride w (omega (arith, ints, there, less, from, f.low)) f.high (omega (arith, ints)) f.some (whole_dvd d s.stride);
      kept = λ z h p.
          let far : h.above ≤ f.span = omega (arith, ints, h.place, h.below, f.ends) in
          let rest : s.stride ∣ f.span - h.above = dvd-sub s.stride f.whole h.steps in
          let few : f.span - h.above ≤ d = omega (arith, ints, far, h.place, f.ends, there, p) in
          let most : f.span - h.above ≤ w = whole_most d s.stride (f.span - h.above) f.some rest few in
          range_from lo s.hi s.stride z
          (record {
            above = w - (f.span - h.above);
            place = omega (arith, ints, far, most, h.place, f.ends);
            steps = dvd-sub s.stride (whole_dvd d s.stride) rest;
            below = h.below;
          });
      inside = λ z h.
          let b = range_to lo s.hi s.stride z h in
          let fits : w ≤ f.span = omega (arith, ints, there, less, from, f.ends) in
          record {
            above = f.span - w + b.above;
            place = omega (arith, ints, fits, b.place, f.ends);
            steps = dvd-add s.stride (dvd-sub s.stride f.whole (whole_dvd d s.stride)) b.steps;
            below = b.below;
          };
      only = λ z h.
          let b = range_to lo s.hi s.stride z h in
          omega (arith, ints, b.place, there, less);
    }

pub cut_above_leaves : (s : Strided) (c : ℤ) → IsFact s → Leaves s (λ z. z ≤ℤ c) (cut_above s c)
unfolding cut_above
cut_above_leaves s c f = by_low (int_lt c s.lo) refl
  where
    by_high : int_lt c s.lo ≡ false → (b : Bool) → int_le s.hi c ≡ b → Leaves s (λ z. z ≤ℤ c) (cond b (Some s) (Some (range s.lo (s.lo +ℤ pos (whole (distance s.lo c) s.stride)) s.stride)))
    by_high low true is = whole_left s (λ z. z ≤ℤ c) f (λ z h. omega (arith, ints, h.below, le_holds s.hi c is))
    by_high low false is = above_cut s c f (lt_fails c s.lo low) (le_fails s.hi c is)

    by_low : (b : Bool) → int_lt c s.lo ≡ b → Leaves s (λ z. z ≤ℤ c) (cond b None (cond (int_le s.hi c) (Some s) (Some (range s.lo (s.lo +ℤ pos (whole (distance s.lo c) s.stride)) s.stride))))
    by_low true is = λ z h p. omega (arith, ints, lt_holds c s.lo is, h.place, p)
    by_low false is = by_high is (int_le s.hi c) refl

pub cut_below_leaves : (s : Strided) (c : ℤ) → IsFact s → Leaves s (λ z. c ≤ℤ z) (cut_below s c)
unfolding cut_below
cut_below_leaves s c f = by_high (int_lt s.hi c) refl
  where
    by_low : int_lt s.hi c ≡ false → (b : Bool) → int_le c s.lo ≡ b → Leaves s (λ z. c ≤ℤ z) (cond b (Some s) (Some (range (s.hi -ℤ pos (whole (distance c s.hi) s.stride)) s.hi s.stride)))
    by_low high true is = whole_left s (λ z. c ≤ℤ z) f (λ z h. omega (arith, ints, h.place, le_holds c s.lo is))
    by_low high false is = below_cut s c f (le_fails c s.lo is) (lt_fails s.hi c high)

    by_high : (b : Bool) → int_lt s.hi c ≡ b → Leaves s (λ z. c ≤ℤ z) (cond b None (cond (int_le c s.lo) (Some s) (Some (range (s.hi -ℤ pos (whole (distance c s.hi) s.stride)) s.hi s.stride))))
    by_high true is = λ z h p. omega (arith, ints, lt_holds s.hi c is, h.below, p)
    by_high false is = by_low is (int_le c s.lo) refl

equal_leaves : (s : Strided) (c : ℤ) → IsFact s → (b : Bool) → has s c ≡ b → Leaves s (λ z. z ≡ c) (cond b (Some (constant c)) None)
equal_leaves s c f true is =
    let there = has_holds s c is in
    record {
      fact = constant_fact c (omega (arith, ints, there.place, f.low)) (omega (arith, ints, there.below, f.high));
      kept = λ z h p. subst (λ v. Holds (constant c) v) (sym p) (constant_holds c);
      inside = λ z h. subst (λ v. Holds s v) (sym (only_value (constant c) z refl h)) there;
      only = λ z h. only_value (constant c) z refl h;
    }
equal_leaves s c f false is = λ z h p. let no : false ≡ true = sym is ∙ has_true s c (subst (λ v. Holds s v) p h) in cc

-- at an end
low_end : (s : Strided) (c : ℤ) (r : Option Strided) → c ≡ s.lo → Leaves s (λ z. (c +ℤ pos 1) ≤ℤ z) r → Leaves s (Stays s (Ne c)) r
low_end s c r at left =
    leaves_same s (λ z. (c +ℤ pos 1) ≤ℤ z) (Stays s (Ne c)) r
    (λ z h p. inl (λ e. omega (arith, ints, e, p)))
    (λ z h q. elim q [ inl other ↦ above z h other | inr apart ↦ absurd (apart.0 at) ])
    left
  where
    above : (z : ℤ) → Holds s z → (z ≡ c → ⊥) → (c +ℤ pos 1) ≤ℤ z
    above z h other = by_above h.above refl
      where
        by_above : (n : ℕ) → h.above ≡ n → (c +ℤ pos 1) ≤ℤ z
        by_above n is = omega (arith, ints, h.place, at, other)

high_end : (s : Strided) (c : ℤ) (r : Option Strided) → c ≡ s.hi → Leaves s (λ z. z ≤ℤ (c -ℤ pos 1)) r → Leaves s (Stays s (Ne c)) r
high_end s c r at left =
    leaves_same s (λ z. z ≤ℤ (c -ℤ pos 1)) (Stays s (Ne c)) r
    (λ z h p. inl (λ e. omega (arith, ints, e, p)))
    (λ z h q. elim q [ inl other ↦ below z h other | inr apart ↦ absurd (apart.1 at) ])
    left
  where
    below : (z : ℤ) → Holds s z → (z ≡ c → ⊥) → z ≤ℤ (c -ℤ pos 1)
    below z h other = omega (arith, ints, h.below, at, other)

pub left_leaves : (s : Strided) (c : Cond) → IsFact s → Leaves s (Stays s c) (left_of s c)
unfolding left_of
left_leaves s (Eq c) f = equal_leaves s c f (has s c) refl
left_leaves s (AtMost c) f = cut_above_leaves s c f
left_leaves s (AtLeast c) f = cut_below_leaves s c f
left_leaves s (Ne c) f = by_low (int_eq c s.lo) refl
  where
    by_high : int_eq c s.lo ≡ false → (b : Bool) → int_eq c s.hi ≡ b → Leaves s (Stays s (Ne c)) (cond b (cut_above s (c -ℤ pos 1)) (Some s))
    by_high low true is = high_end s c (cut_above s (c -ℤ pos 1)) (eq_holds c s.hi is) (cut_above_leaves s (c -ℤ pos 1) f)
    by_high low false is =
        whole_left s (Stays s (Ne c)) f
        (λ z h. inr ((λ e. let no : false ≡ true = sym low ∙ eq_true c s.lo e in cc), (λ e. let no : false ≡ true = sym is ∙ eq_true c s.hi e in cc)))

    by_low : (b : Bool) → int_eq c s.lo ≡ b → Leaves s (Stays s (Ne c)) (cond b (cut_below s (c +ℤ pos 1)) (cond (int_eq c s.hi) (cut_above s (c -ℤ pos 1)) (Some s)))
    by_low true is = low_end s c (cut_below s (c +ℤ pos 1)) (eq_holds c s.lo is) (cut_below_leaves s (c +ℤ pos 1) f)
    by_low false is = by_high is (int_eq c s.hi) refl

-- some value is left exactly where one meets the condition
pub left_meets : (s : Strided) (c : Cond) (r : Option Strided) → IsFact s → Leaves s (Stays s c) r → MatchOption r (SomeMeets s c → ⊥) (λ x. SomeMeets s c)
left_meets s (Eq c) None f none = λ m. none m.0 m.1 m.2
left_meets s (Ne c) None f none = λ m. none m.0 m.1 (inl m.2)
left_meets s (AtMost c) None f none = λ m. none m.0 m.1 m.2
left_meets s (AtLeast c) None f none = λ m. none m.0 m.1 m.2
left_meets s (Eq c) (Some r) f left = let h = holds_lo r left.fact in (r.lo, left.inside r.lo h, left.only r.lo h)
left_meets s (AtMost c) (Some r) f left = let h = holds_lo r left.fact in (r.lo, left.inside r.lo h, left.only r.lo h)
left_meets s (AtLeast c) (Some r) f left = let h = holds_lo r left.fact in (r.lo, left.inside r.lo h, left.only r.lo h)
left_meets s (Ne c) (Some r) f left =
    let h = holds_lo r left.fact in
    elim (left.only r.lo h) [ inl other ↦ (r.lo, left.inside r.lo h, other) | inr apart ↦ (s.lo, holds_lo s f, λ e. apart.0 (sym e)) ]

pub left_leaves_at : (s : Strided) (c : Cond) (r : Option Strided) → IsFact s → r ≡ left_of s c → Leaves s (Stays s c) r
left_leaves_at s c r f is = subst (λ x. Leaves s (Stays s c) x) (sym is) (left_leaves s c f)

pub left_meets_at : (s : Strided) (c : Cond) (r : Option Strided) → IsFact s → r ≡ left_of s c → MatchOption r (SomeMeets s c → ⊥) (λ x. SomeMeets s c)
left_meets_at s c r f is = left_meets s c r f (left_leaves_at s c r f is)

pub ruleset leaving = (left_leaves_at, left_meets_at)

-- the cuts as they are made
pub cut_above_is : (s : Strided) (c : ℤ) (r : Strided) → s.lo ≤ℤ c → c <ℤ s.hi → r ≡ range s.lo (s.lo +ℤ pos (whole (distance s.lo c) s.stride)) s.stride → Some r ≡ cut_above s c
unfolding cut_above
cut_above_is s c r from to is =
    ap Some is
    ∙ sym (ap (λ b. cond b None (cond (int_le s.hi c) (Some s) (Some (range s.lo (s.lo +ℤ pos (whole (distance s.lo c) s.stride)) s.stride)))) (lt_false c s.lo from)
    ∙ ap (λ b. cond b (Some s) (Some (range s.lo (s.lo +ℤ pos (whole (distance s.lo c) s.stride)) s.stride))) (le_false s.hi c to))

pub cut_below_is : (s : Strided) (c : ℤ) (r : Strided) → s.lo <ℤ c → c ≤ℤ s.hi → r ≡ range (s.hi -ℤ pos (whole (distance c s.hi) s.stride)) s.hi s.stride → Some r ≡ cut_below s c
unfolding cut_below
cut_below_is s c r from to is =
    ap Some is
    ∙ sym (ap (λ b. cond b None (cond (int_le c s.lo) (Some s) (Some (range (s.hi -ℤ pos (whole (distance c s.hi) s.stride)) s.hi s.stride)))) (lt_false s.hi c to)
    ∙ ap (λ b. cond b (Some s) (Some (range (s.hi -ℤ pos (whole (distance c s.hi) s.stride)) s.hi s.stride))) (le_false c s.lo from))
